use Rattle.std.proofs.Common.{◌≡◌, ◌++◌, ◌∷◌, [], ◌∙◌, ap, append_assoc, rules, subst, sym}
use Rattle.std.proofs.lemmas.List.Elements.{All-push}
use Rattle.pon_record.specs.Chapters.{FitsChapter}
use Rattle.pon_record.specs.Recordings.{IsBadFormat, IsTruncated}
use Rattle.pon_record.specs.Streams.{StandsAfter}
use Rattle.pon_audit.specs.Openings.{FitsRecording}
use Rattle.pon_audit.proofs.reading.read_batch.Goals as goal

pub loop-alloc-preserved : goal.loop-alloc-preserved
loop-alloc-preserved g c =
    let items = c.loop-alloc.chapters.items in
    let chapter = c.in-Ok-Some.chapter in
    let left = g.R.DevRead.remaining c.next.new.reader in
    let pushed : c.push.new.self.items ≡ items ++ chapter ∷ [] = search rules in
    let fits : FitsChapter c.loop-alloc.source.version chapter.body = rw c.in-Ok-Some.field-0-is at c.in-Ok-Some.ensures.fits in
    record {
      fit = rw pushed (All-push (λ c. FitsRecording c.body) items chapter c.loop-alloc.invariant.fit (record { version = c.loop-alloc.source.version; fits = fits }));
      stands = λ bytes whole stands.
          let next : StandsAfter bytes ((whole ++ items) ++ chapter ∷ []) c.next.new.self left = rw c.in-Ok-Some.field-0-is at (c.in-Ok-Some.ensures.gives bytes (whole ++ items) (c.loop-alloc.invariant.stands bytes whole stands)) in
          subst (λ l. StandsAfter bytes l c.next.new.self left) (append_assoc whole items (chapter ∷ []) ∙ ap (λ l. whole ++ l) (sym pushed)) next;
      none_failed = c.in-Ok-Some.ensures.failures ∙ c.loop-alloc.invariant.none_failed;
    }

pub returns-in-Ok-None-clause-batch : goal.returns-in-Ok-None-clause-batch
returns-in-Ok-None-clause-batch g c = λ bytes whole stands.
    rw c.in-Ok-None.field-0-is at (c.in-Ok-None.ensures.gives bytes (whole ++ c.loop-alloc.chapters.items) (c.loop-alloc.invariant.stands bytes whole stands))

pub returns-in-Err-Truncated-clause-batch : goal.returns-in-Err-Truncated-clause-batch
returns-in-Err-Truncated-clause-batch g c = λ bytes whole stands.
    let all = whole ++ c.loop-alloc.chapters.items in
    let cut : IsTruncated bytes c.in-Err-Truncated.at all = rw c.in-Err-Truncated.field-0-is at (c.in-Err-Truncated.ensures.gives bytes all (c.loop-alloc.invariant.stands bytes whole stands)) in
    subst (λ n. IsTruncated bytes n all) (sym c.in-Err-Truncated.at-is) cut

pub returns-in-Err-BadFormat-clause-batch : goal.returns-in-Err-BadFormat-clause-batch
returns-in-Err-BadFormat-clause-batch g c = λ bytes whole stands.
    let all = whole ++ c.loop-alloc.chapters.items in
    let bad : IsBadFormat bytes c.in-Err-BadFormat.at = rw c.in-Err-BadFormat.field-0-is at (c.in-Err-BadFormat.ensures.gives bytes all (c.loop-alloc.invariant.stands bytes whole stands)) in
    subst (IsBadFormat bytes) (sym c.in-Err-BadFormat.at-is) bad
