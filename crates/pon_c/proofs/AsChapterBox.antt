-- An open handle and the parts of its box own what a box at the same types owns.
use mir.Syntax.{impl, tnil, dnil}
use mathlib.Core.Bool.{false≢true}
use mathlib.Core.List.{[]}
use denote.Signature.{Slot, plain}
use Rattle.std.proofs.Common.{◌≡◌, refl}
use Rattle.std.specs.Prelude.{IsSome, Some, None}
use Rattle.std.specs.declared.option.Option.{Option}
use Rattle.std_alloc.proofs.BoxSteps.Form.{Bx}
use Rattle.std_heap.specs.contracts.Global as Heap
use Rattle.std_heap.specs.contracts.GlobalAllocator.TheImpl.{ghosts, dict}
use Rattle.std_heap.proofs.Global.TheLaws as heap
use Rattle.pon_c.specs.contracts.turned.Turned as Turned
use Rattle.pon_c.proofs.turned.Turned.TheLaws as turned
use Rattle.pon_c.specs.contracts.owned.parts.Parts as Parts
use Rattle.pon_c.specs.contracts.owned.chapter.OwnedChapter as Owned

abbrev pub E : Bx
E = record { row = Turned.the_row; laws = turned.the_row_laws; al = record { row = Heap.the_row; laws = heap.the_row_laws; g = ghosts; d = dict; drops = impl [] tnil dnil } }

abbrev pub FromParts : Slot 0
FromParts = plain (λ _. Parts.the_row Turned.the_row Heap.the_row ghosts)

abbrev pub FromChapter : Slot 0
FromChapter = plain (λ _. Owned.the_row)

abbrev pub FromHeap : Slot 0
FromHeap = plain (λ _. Heap.the_row)

pub some_of : {A : Type 0} (o : Option A) → IsSome o → (x : A) × (o ≡ Some x)
some_of None is = absurd (false≢true is)
some_of (Some x) is = (x, refl)
