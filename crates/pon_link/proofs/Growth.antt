-- The bytes that a reader holds after it took some.
use Rattle.std.proofs.Common.{◌≡◌, ℕ, ◌+◌, ◌-◌, ◌<◌, ◌≤◌, List, [], ◌∷◌, ◌++◌, length, take, drop, refl, ap, sym, ◌∙◌, subst, inl, inr, append_assoc, arith}
use Rattle.std.proofs.lemmas.Bool.{cases_lt}
use Rattle.std.proofs.lemmas.List.{append-nil, length-take}
use Rattle.std.proofs.Math.Seq.{take-add}
use Rattle.pon_link.specs.Reading.{ReaderState, IsOpen, IsWithinRecord, Announces, header_len, holds_more}
use Rattle.pon_link.specs.declared.direction.Direction.{Direction}
use Rattle.pon_link.proofs.Sizes.{begins_more}

-- a part of a piece is held after the part that was taken before
pub hold_part : (old mid new : ReaderState) (piece part : List ℕ) (k n : ℕ) → part ≡ take n (drop k piece) → mid ≡ holds_more old (take k piece) → new ≡ holds_more mid part → new ≡ holds_more old (take (k + n) piece)
hold_part old mid new piece part k n is e one =
    let grown : (old.held ++ take k piece) ++ part ≡ old.held ++ take (k + n) piece
    = append_assoc old.held (take k piece) part ∙ ap (λ (t : List ℕ). old.held ++ t) (ap (λ (t : List ℕ). take k piece ++ t) is ∙ sym (take-add k n piece)) in
    let both : holds_more mid part ≡ holds_more (holds_more old (take k piece)) part = ap (λ (m : ReaderState). holds_more m part) e in
    let seam : holds_more (holds_more old (take k piece)) part ≡ holds_more old (take (k + n) piece) = λ i. record { direction = old.direction; held = grown i; ended = old.ended } in
    one ∙ both ∙ seam

-- a reader that is open up to byte k of a piece, and from there with fewer than n more bytes, is open up to byte k + n
pub open_further : (old mid : ReaderState) (piece : List ℕ) (k n : ℕ) → mid ≡ holds_more old (take k piece) → ((more : List ℕ) → length more < n → IsOpen (holds_more mid more)) → ((j : ℕ) → j < k → IsOpen (holds_more old (take j piece))) → (j : ℕ) → j < k + n → IsOpen (holds_more old (take j piece))
open_further old mid piece k n e begins before j lt = elim (cases_lt j k) [
  | inl less ↦ before j less
  | inr ge ↦
      let part = take (j - k) (drop k piece) in
      let whole : k + (j - k) ≡ j = omega (arith, ge) in
      let grown : holds_more mid part ≡ holds_more old (take (k + (j - k)) piece) = hold_part old mid (holds_more mid part) piece part k (j - k) refl e refl in
      let here : IsOpen (holds_more mid part) = begins part (omega (arith, lt, ge, length-take (j - k) (drop k piece))) in
      subst IsOpen (grown ∙ ap (λ (i : ℕ). holds_more old (take i piece)) whole) here
]

-- the bytes taken from some others are at most as long as the room they were read into
pub taken_within : (n needed : ℕ) (bytes room : List ℕ) → n ≤ length (take needed room) → length (take n bytes) ≤ needed
taken_within n needed bytes room le = omega (arith, le, length-take n bytes, length-take needed room)

-- a reader that holds some bytes is open with fewer bytes than it still needs at least
pub open_with : (s : ReaderState) (needed : ℕ) → IsOpen s → 0 < length s.held → (length s.held < header_len s.direction → length s.held + needed ≡ header_len s.direction) → (header_len s.direction ≤ length s.held → Announces s.direction s.held (length s.held + needed)) → (more : List ℕ) → length more < needed → IsOpen (holds_more s more)
open_with s needed o some untold told more lt = record { unended = o.unended; beginning = begins_more s.direction s.held more needed some o.beginning untold told lt }

-- a reader with no more bytes is unchanged
pub open_still : (s : ReaderState) (more : List ℕ) → IsOpen s → length more < 1 → IsOpen (holds_more s more)
open_still s [] o lt = subst (λ (held : List ℕ). IsOpen (record { direction = s.direction; held = held; ended = s.ended })) (sym (append-nil s.held)) o
open_still s (b ∷ more) o lt = absurd (omega (arith, lt))

-- no more bytes keep the bytes within a record
pub within_still : (d : Direction) (held more : List ℕ) → length more < 1 → IsWithinRecord d held → IsWithinRecord d (held ++ more)
within_still d held [] lt w = subst (λ (t : List ℕ). IsWithinRecord d t) (sym (append-nil held)) w
within_still d held (b ∷ more) lt w = absurd (omega (arith, lt))
