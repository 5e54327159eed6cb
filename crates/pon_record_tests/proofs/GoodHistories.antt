-- A recording of lawful chapters, those of each port in order, is good.
use Rattle.std.proofs.Common.{◌≡◌, ℕ, zero, suc, ◌+◌, List, [], ◌∷◌, map, length, Option, refl, ap, sym, ◌∙◌, subst, arith}
use Rattle.std.specs.Prelude.{All, AllPairs, count_by, sum_by}
use Rattle.std.specs.List.{AllByRecursion}
use Rattle.std.proofs.lemmas.List.{append-nil}
use Rattle.std.proofs.lemmas.List.Elements.{All-nil, All-cons, All-head, All-tail}
use Rattle.std.proofs.lemmas.List.Sums.{sum_by-cons}
use Rattle.pon_state.specs.Maps.{makes_map}
use Rattle.pon_history.specs.Chapters.{IsLawfulChapter, present_state}
use Rattle.pon_history.proofs.FairMaps.{maps_are_fair}
use Rattle.pon_history.proofs.WordRuns.{whole_runs}
use Rattle.pon_record.specs.declared.limits.TheConstants.{MAGIC_BYTES}
use Rattle.pon_record.specs.declared.version.Version.TheVariants.{Two}
use Rattle.pon_record.specs.Chapters.{PlacedChapter, chapter_bytes, placed}
use Rattle.pon_record.specs.Recordings.{recording_bytes}
use Rattle.pon_record.specs.Bodies.{IsOfPort}
use Rattle.pon_record.specs.Recorders.{Records}
use Rattle.pon_record.proofs.ReadBack.{is_recording}
use Rattle.pon_audit.specs.Openings.{chapter_of}
use Rattle.pon_audit.specs.Verdicts.{AreGood, Continues, IsGoodChapter, IsVerdict, Rises, maps_in}
use Rattle.pon_audit.specs.declared.verdict.Verdict.{Verdict}
use Rattle.pon_audit.specs.declared.verdict.Verdict.TheVariants.{Good}
use Rattle.pon_audit.proofs.OneVerdict.{one_verdict}
use Rattle.pon_record_tests.specs.Histories.{AreHistories, InOrder, IsRecordable, PortChapter, body_of, map_count}
use Rattle.pon_record_tests.proofs.SameChapters.{same_chapter}

-- Pairs of a list.

module _ {X : Type 0} (R : X → X → Type 0) (x : X) (xs : List X) where
  pairs_cons : All (R x) xs → AllPairs R xs → AllPairs R (x ∷ xs)
  pairs_cons h p zero zero d lt l = absurd (omega (arith, lt))
  pairs_cons h p zero (suc k) d lt l = h k d (omega (arith, l))
  pairs_cons h p (suc j) zero d lt l = absurd (omega (arith, lt))
  pairs_cons h p (suc j) (suc k) d lt l = p j k d (omega (arith, lt)) (omega (arith, l))

  pairs_head : AllPairs R (x ∷ xs) → All (R x) xs
  pairs_head p k d l = p zero (suc k) d (omega arith) (omega (arith, l))

  pairs_tail : AllPairs R (x ∷ xs) → AllPairs R xs
  pairs_tail p j k d lt l = p (suc j) (suc k) d (omega (arith, lt)) (omega (arith, l))

-- Chapters one after another.

-- a chapter at a place
abbrev at_place : ℕ → PortChapter → PlacedChapter
at_place at x = record { at = at; body = body_of x }

abbrev next_place : ℕ → PortChapter → ℕ
next_place at x = at + length (chapter_bytes Two (body_of x))

abbrev all_placed : ℕ → List PortChapter → List PlacedChapter
all_placed at xs = placed Two at (map body_of xs)

-- what holds of chapters at any place, the placed chapters have
each_placed : (P : PlacedChapter → Type 0) (Q : PortChapter → Type 0) → ((at : ℕ) (x : PortChapter) → Q x → P (at_place at x)) → (at : ℕ) (xs : List PortChapter) → All Q xs → All P (all_placed at xs)
each_placed P Q f at [] h = All-nil P
each_placed P Q f at (x ∷ xs) h = All-cons P (at_place at x) (all_placed (next_place at x) xs) (f at x (All-head Q x xs h)) (each_placed P Q f (next_place at x) xs (All-tail Q x xs h))

-- what holds of two recordable chapters in order, the placed ones have
module _ (R : PlacedChapter → PlacedChapter → Type 0) (f : (at later : ℕ) (x y : PortChapter) → IsRecordable x → IsRecordable y → InOrder x y → R (at_place at x) (at_place later y)) where
  pairs_placed : (at : ℕ) (xs : List PortChapter) → All IsRecordable xs → AllPairs InOrder xs → AllPairs R (all_placed at xs)
  pairs_placed at [] h p = λ j k d lt l. absurd (omega (arith, l))
  pairs_placed at (x ∷ xs) h p =
      pairs_cons R (at_place at x) (all_placed (next_place at x) xs)
      (each_placed (R (at_place at x)) (λ y. IsRecordable y × InOrder x y) (λ later y q. f at later x y (All-head IsRecordable x xs h) q.0 q.1) (next_place at x) xs
      (λ k d l. (All-tail IsRecordable x xs h k d l, pairs_head InOrder x xs p k d l)))
      (pairs_placed (next_place at x) xs (All-tail IsRecordable x xs h) (pairs_tail InOrder x xs p))

-- Good chapters.

as_written : (x : PortChapter) → IsRecordable x → chapter_of (body_of x) ≡ x.chapter
as_written x h = same_chapter x.port x.chapter h.lawful

good_chapter : (at : ℕ) (x : PortChapter) → IsRecordable x → IsGoodChapter (at_place at x)
good_chapter at x h =
    let lawful : IsLawfulChapter (chapter_of (body_of x)) = subst IsLawfulChapter (sym (as_written x h)) h.lawful in
    record { lawful = lawful; fair = maps_are_fair (chapter_of (body_of x)) lawful; runs = whole_runs (chapter_of (body_of x)) lawful }

continues : (at later : ℕ) (x y : PortChapter) → IsRecordable x → IsRecordable y → InOrder x y → Continues (at_place at x) (at_place later y)
continues at later x y h k order same next =
    ap (λ c. c.opening) (as_written y k) ∙ (order same).follows next ∙ ap present_state (sym (as_written x h))

rises : (at later : ℕ) (x y : PortChapter) → IsRecordable x → IsRecordable y → InOrder x y → Rises (at_place at x) (at_place later y)
rises at later x y h k order same = (order same).rises

good_list : (at : ℕ) (xs : List PortChapter) → AreHistories xs → AreGood (all_placed at xs)
good_list at xs h = record {
  each = each_placed IsGoodChapter IsRecordable good_chapter at xs h.each;
  chained = pairs_placed Continues continues at xs h.each h.ordered;
  rising = pairs_placed Rises rises at xs h.each h.ordered;
}

count_placed : (at : ℕ) (xs : List PortChapter) → map_count xs ≡ sum_by maps_in (all_placed at xs)
count_placed at [] = refl
count_placed at (x ∷ xs) =
    sum_by-cons (λ (x : PortChapter). count_by (λ e. makes_map e.event) x.chapter.entries) x xs
    ∙ ap (λ n. maps_in (at_place at x) + n) (count_placed (next_place at x) xs)
    ∙ sym (sum_by-cons maps_in (at_place at x) (all_placed (next_place at x) xs))

-- The recording.

each_of_port : (xs : List PortChapter) → All IsRecordable xs → AllByRecursion IsOfPort (map body_of xs)
each_of_port [] h = tt
each_of_port (x ∷ xs) h =
    let first : IsRecordable x = All-head IsRecordable x xs h in (
      record {
        port = x.port;
        chapter = x.chapter;
        numbered = first.numbered;
        lawful = first.lawful;
        count = first.count;
        in_range = first.in_range;
        is = refl;
      },
      each_of_port xs (All-tail IsRecordable x xs h),
    )

pub are_good : (xs : List PortChapter) → AreHistories xs → IsVerdict (recording_bytes Two (map body_of xs)) (Good (map_count xs))
are_good xs h = (all_placed MAGIC_BYTES xs, (Two, refl, is_recording (map body_of xs) (each_of_port xs h.each)), record { good = good_list MAGIC_BYTES xs h; count = count_placed MAGIC_BYTES xs })

pub good_alone : (xs : List PortChapter) (verdict : Verdict) → AreHistories xs → IsVerdict (recording_bytes Two (map body_of xs)) verdict → verdict ≡ Good (map_count xs)
good_alone xs verdict h is = one_verdict (recording_bytes Two (map body_of xs)) verdict (Good (map_count xs)) is (are_good xs h)

pub sent_is_good : (before now : Option (List ℕ)) (xs : List PortChapter) → AreHistories xs → (w : Records before now [] (map body_of xs)) → IsVerdict w.sent (Good (map_count xs))
sent_is_good before now xs h w = subst (λ bytes. IsVerdict bytes (Good (map_count xs))) (sym w.together ∙ append-nil w.sent) (are_good xs h)
