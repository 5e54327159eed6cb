-- The first fault of a port, and of the ports.
use Rattle.std.proofs.Common.{◌≡◌, ℕ, suc, zero, List, [], ◌∷◌, ◌++◌, length, take, refl, ap}
use Rattle.std.specs.Prelude.{Option, Some, slice_get}
use Rattle.std.specs.List.{AllZip}
use Rattle.std.proofs.lemmas.Option.{same_Some}
use Rattle.toml.specs.Data.{Data, Members}
use Rattle.pon_settings.specs.declared.fault.SettingsFault.{SettingsFault}
use Rattle.pon_settings.specs.declared.fault.SettingsFault.TheVariants as fault
use Rattle.pon_settings.specs.Rows.{IsRowsFault}
use Rattle.pon_settings.specs.Ports.{PortFields, PortSettings, SpellsPort, port_fields_at, port_tables, IsPortFault, IsPortsFault, IsFirstSettingsFault}

-- if the fields of a port are well formed, the first fault of its rows is that of the port
pub in_rows : (port : ℕ) (d : Data) (own : PortFields) (f : SettingsFault) → port_fields_at d ≡ Some own → IsRowsFault port own.opening.0.gap own.tables f → IsPortFault port d f
in_rows port d own fault.Text fields h = h
in_rows port d own fault.Ports fields h = h
in_rows port d own (fault.Field p) fields h = absurd h
in_rows port d own (fault.Row p k) fields h = record { own = own; fields = fields; first = h }
in_rows port d own (fault.Refused p k why) fields h = record { own = own; fields = fields; first = h }
in_rows port d own fault.Memory fields h = tt

-- the fault of a port is the first fault of the ports, if the ports before it are spelled
pub at_port : (tables : List Data) (port : ℕ) (d : Data) (before : List PortSettings) (f : SettingsFault) → slice_get tables port ≡ Some d → AllZip SpellsPort (take port tables) before → IsPortFault port d f → IsPortsFault tables f
at_port tables port d before fault.Text here earlier h = h
at_port tables port d before fault.Ports here earlier h = h
at_port tables port d before (fault.Field p) here earlier h = record { port = port; table = d; here = here; before = before; earlier = earlier; first = h }
at_port tables port d before (fault.Row p k) here earlier h = record { port = port; table = d; here = here; before = before; earlier = earlier; first = h }
at_port tables port d before (fault.Refused p k why) here earlier h = record { port = port; table = d; here = here; before = before; earlier = earlier; first = h }
at_port tables port d before fault.Memory here earlier h = tt

-- one more port
pub one_more_port : {A B : Type 0} (R : A → B → Type 0) (xs : List A) (ys : List B) (k : ℕ) (x : A) (y : B) → AllZip R (take k xs) ys → slice_get xs k ≡ Some x → R x y → AllZip R (take (suc k) xs) (ys ++ y ∷ [])
one_more_port R [] ys k x y so_far here last = absurd cc
one_more_port R (z ∷ xs) [] zero x y so_far here last = (rw (same_Some z x here) last, tt)
one_more_port R (z ∷ xs) (w ∷ ys) zero x y so_far here last = absurd so_far
one_more_port R (z ∷ xs) [] (suc k) x y so_far here last = absurd so_far
one_more_port R (z ∷ xs) (w ∷ ys) (suc k) x y so_far here last = (so_far.0, one_more_port R xs ys k x y so_far.1 here last)

-- the first fault of the ports is that of the text
pub among_ports : (document : Option Members) (t : Members) (tables : List Data) (f : SettingsFault) → document ≡ Some t → port_tables t ≡ Some tables → IsPortsFault tables f → IsFirstSettingsFault document f
among_ports document t tables fault.Text is list h = absurd h
among_ports document t tables fault.Ports is list h = absurd h
among_ports document t tables (fault.Field p) is list h = record { table = t; is_toml = is; tables = tables; list = list; first = h }
among_ports document t tables (fault.Row p k) is list h = record { table = t; is_toml = is; tables = tables; list = list; first = h }
among_ports document t tables (fault.Refused p k why) is list h = record { table = t; is_toml = is; tables = tables; list = list; first = h }
among_ports document t tables fault.Memory is list h = tt

pub same_length : {A B : Type 0} (R : A → B → Type 0) (xs : List A) (ys : List B) → AllZip R xs ys → length ys ≡ length xs
same_length R [] [] h = refl
same_length R [] (y ∷ ys) h = absurd h
same_length R (x ∷ xs) [] h = absurd h
same_length R (x ∷ xs) (y ∷ ys) h = ap suc (same_length R xs ys h.1)
