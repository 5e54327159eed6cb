use Rattle.std.proofs.Common.{◌≡◌, [], ◌∷◌, ◌++◌, rules, subst, sym}
use Rattle.std.specs.Prelude.{Some}
use Rattle.pon_record.specs.Chapters.{FitsChapter}
use Rattle.pon_record.specs.Streams.{StandsAfter}
use Rattle.pon_c.proofs.LastChapters.{TellsSoFar, further, last_told, none_so_far}
use Rattle.pon_c.proofs.resuming.last_chapter.Goals as goal

pub loop-chapter-init : goal.loop-chapter-init
loop-chapter-init c =
    let bytes = c.args.bytes.now in
    let there : Some c.new-reader.result.inner.now ≡ Some bytes = search rules in
    ([], c.in-Ok.ensures.opens bytes there, none_so_far c.args.port)

pub loop-chapter-preserved : goal.loop-chapter-preserved
loop-chapter-preserved c =
    let bytes = c.args.bytes.now in
    let so_far = c.loop-chapter.invariant in
    let next = c.in-Ok-Some.next in
    let stands : StandsAfter bytes (so_far.0 ++ next ∷ []) c.next.new.self (Some c.next.new.reader.inner.now)
    = rw c.in-Ok-Some.field-0-is at (c.in-Ok-Some.ensures.gives bytes so_far.0 so_far.1) in
    let fits : FitsChapter c.loop-chapter.source.version next.body = rw c.in-Ok-Some.field-0-is at c.in-Ok-Some.ensures.fits in
    let told = further c.args.port so_far.0 next c.loop-chapter.last (record { version = c.loop-chapter.source.version; fits = fits }) so_far.2 in
    (so_far.0 ++ next ∷ [], stands, subst (TellsSoFar c.args.port (so_far.0 ++ next ∷ [])) (sym c.later_of-last.ensures) told)

pub returns-in-Ok-None : goal.returns-in-Ok-None
returns-in-Ok-None c =
    let so_far = c.loop-chapter.invariant in
    last_told c.args.bytes.now c.args.port so_far.0 c.loop-chapter.last c.requires (rw c.in-Ok-None.field-0-is at (c.in-Ok-None.ensures.gives c.args.bytes.now so_far.0 so_far.1)) so_far.2
