-- What is owned behind the pointer of a handle: nothing while it is closed, otherwise what a `Box<Port>` owns.
use base.Fml.{Fml, ftrue}
use base.Stored.{Coded}
use denote.RawPtr.{Ptr}
use Rattle.std.specs.Prelude.{Some, None}
use Rattle.std.specs.declared.option.Option.{Option}
use Rattle.std.specs.Coded.{coded_option}
use Rattle.std.specs.Box.Ownership.{box_owns}
use Rattle.std.specs.Global.{Global}
use Rattle.std_heap.specs.contracts.GlobalAllocator.TheImpl.{ghosts}
use Rattle.pon_port.specs.contracts.port.Port.{the_row}

abbrev pub port_owns : Global → Ptr → Option the_row.Denot → Fml
port_owns alloc at None = ftrue
port_owns alloc at (Some port) = box_owns (ghosts.dealloc_token alloc) the_row at port

abbrev pub port_coded : Coded (Option the_row.Denot)
port_coded = coded_option the_row.coded
