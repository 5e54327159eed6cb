-- The TCP ports of the ports of a terminal.
use Rattle.std.specs.Prelude.{ℕ, zero, suc, ◌+◌}

-- the TCP port of a port, from that of port 0; 0, which selects a free one, is that of each
abbrev pub port_at : ℕ → ℕ → ℕ
port_at zero port = zero
port_at (suc first) port = suc first + port
