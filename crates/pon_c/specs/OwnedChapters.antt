-- What is owned behind the pointer of a handle of a chapter: nothing while it is closed, otherwise what a `Box<Turned>`
-- owns.
use base.Fml.{Fml, ftrue}
use base.Stored.{Coded}
use denote.RawPtr.{Ptr}
use Rattle.std.specs.Prelude.{Some, None}
use Rattle.std.specs.declared.option.Option.{Option}
use Rattle.std.specs.Coded.{coded_option}
use Rattle.std.specs.Box.Ownership.{box_owns}
use Rattle.std.specs.Global.{Global}
use Rattle.std_heap.specs.contracts.GlobalAllocator.TheImpl.{ghosts}
use Rattle.pon_c.specs.contracts.turned.Turned.{the_row}

abbrev pub chapter_owns : Global → Ptr → Option the_row.Denot → Fml
chapter_owns alloc at None = ftrue
chapter_owns alloc at (Some chapter) = box_owns (ghosts.dealloc_token alloc) the_row at chapter

abbrev pub chapter_coded : Coded (Option the_row.Denot)
chapter_coded = coded_option the_row.coded
