-- A chapter that is owned behind a pointer may go to another thread, as a box of a chapter may.
use mir.Raw.{raw}
use base.Shift.{Keyless}
use denote.Memory.{lone}
use denote.RawPtr.{Ptr}
use denote.Struct.Struct.{exits_of}
use denote.Struct.Owning.{shape, fields, to}
use denote.Param.Send.{IsSend, AllSend, owning_send, struct_send, sendable}
use Rattle.std.specs.Prelude.{Some, None}
use Rattle.std.specs.declared.option.Option.{Option}
use Rattle.std.specs.Global.{Global}
use Rattle.std.proofs.Crossing as heap
use Rattle.std_alloc.proofs.SendSync.{quiet, lies}
use Rattle.std_heap.proofs.Global.TheSendSync as heap_send
use Rattle.pon_c.specs.contracts.turned.Turned as Turned
use Rattle.pon_c.proofs.turned.Turned.TheSendSync.{the_send as turned}
use Rattle.pon_c.specs.OwnedChapters.{chapter_owns}
use Rattle.pon_c.specs.contracts.owned.chapter.OwnedChapter.{the_row, the_type}

owned : (alloc : Global) (p : Ptr) (o : Option Turned.the_row.Denot) → Keyless (chapter_owns alloc p o)
owned alloc p None = tt
owned alloc p (Some x) = (lies Turned.the_row turned p x, heap.frees.frees alloc (raw (lone Turned.the_row.mir)) p)

pub send : IsSend the_row
send =
    let all : AllSend (fields the_type) = (search sendable, (heap_send.the_field_send, tt)) in
    owning_send the_type all (λ d. owned d.alloc d.ptr d.chapter)
    (λ k. quiet (to the_type) (exits_of k (fields the_type)) ((struct_send (shape the_type) all).leaving k))
