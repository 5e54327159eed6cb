-- Bytes have at most one list of chapters.
use Rattle.std.proofs.Common.{◌≡◌, ℕ, List, [], ap, arith, inl, inr}
use Rattle.std.specs.Prelude.{None, Ok, Option, Some}
use Rattle.pon_record.specs.declared.fault.ReadFault.{ReadFault}
use Rattle.pon_record.specs.declared.fault.ReadFault.TheVariants as read
use Rattle.pon_record.specs.Chapters.{PlacedChapter}
use Rattle.pon_record.specs.Streams.{GivesNext as GivesNextOf, Position}
use Rattle.pon_record.specs.Recordings.{IsBadFormat, IsRecording, IsTruncated, either_version}
use Rattle.pon_record.proofs.OneReading.{no_bad_format, no_truncated, one_fault, one_recording}
use Rattle.pon_audit.specs.Verdicts.{HasChapters}
use Rattle.pon_resume.specs.Ends.{AreAll, GivesNext}

abbrev whole_of : ReadFault → List PlacedChapter
whole_of (read.Truncated at whole) = whole
whole_of (read.BadFormat at) = []
whole_of read.Memory = []

abbrev is_cut : ReadFault → ℕ
is_cut (read.Truncated at whole) = 1
is_cut (read.BadFormat at) = 0
is_cut read.Memory = 0

module _ (bytes : List ℕ) where
  both_cut : (at at2 : ℕ) (cs ds : List PlacedChapter) → IsTruncated bytes at cs → IsTruncated bytes at2 ds → read.Truncated at cs ≡ read.Truncated at2 ds
  both_cut at at2 cs ds t u = one_fault either_version bytes (read.Truncated at cs) (read.Truncated at2 ds) t u (λ e. absurd cc) (λ e. absurd cc)

  never_both : (at at2 : ℕ) (cs : List PlacedChapter) → IsTruncated bytes at cs → IsBadFormat bytes at2 → ⊥
  never_both at at2 cs t b =
      let e = ap is_cut (one_fault either_version bytes (read.Truncated at cs) (read.BadFormat at2) t b (λ e. absurd cc) (λ e. absurd cc)) in
      absurd (omega (arith, e))

  same_chapters : (cs ds : List PlacedChapter) → HasChapters bytes cs → HasChapters bytes ds → cs ≡ ds
  same_chapters cs ds (inl r) (inl q) = one_recording either_version bytes cs ds r q
  same_chapters cs ds (inl r) (inr (at, t)) = absurd (no_truncated either_version bytes cs at ds r t)
  same_chapters cs ds (inr (at, t)) (inl q) = absurd (no_truncated either_version bytes ds at cs q t)
  same_chapters cs ds (inr (at, t)) (inr (at2, u)) = ap whole_of (both_cut at at2 cs ds t u)

  no_format_fault : (cs : List PlacedChapter) (at : ℕ) → HasChapters bytes cs → IsBadFormat bytes at → ⊥
  no_format_fault cs at (inl r) b = no_bad_format either_version bytes cs at r b
  no_format_fault cs at (inr (at2, t)) b = never_both at2 at cs t b

  -- at the end of a recording, where it is cut, and at a fault of its format
  pub all_of_whole : (whole : List PlacedChapter) → IsRecording bytes whole → AreAll bytes whole
  all_of_whole whole r = λ chapters h. same_chapters chapters whole h (inl r)

  pub all_of_cut : (at : ℕ) (whole : List PlacedChapter) → IsTruncated bytes at whole → AreAll bytes whole
  all_of_cut at whole t = λ chapters h. same_chapters chapters whole h (inr (at, t))

  pub none_at_fault : (at : ℕ) (whole : List PlacedChapter) → IsBadFormat bytes at → AreAll bytes whole
  none_at_fault at whole b = λ chapters h. absurd (no_format_fault chapters at h b)

  -- the next chapter, or none after the last
  pub given : (whole : List PlacedChapter) (p : Position) (left : Option (List ℕ)) (next : Option PlacedChapter) → GivesNextOf bytes whole p left (Ok next) → GivesNext bytes whole p left next
  given whole p left None r = all_of_whole whole r
  given whole p left (Some c) stands = stands
