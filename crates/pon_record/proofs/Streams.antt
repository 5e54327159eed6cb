-- A recording that is read from a device.
use Rattle.std.proofs.Common.{◌≡◌, ℕ, ◌+◌, ◌<◌, ◌≤◌, List, [], ◌∷◌, ◌++◌, length, take, drop, refl, sym, ap, subst, ◌∙◌, arith, inl, inr}
use Rattle.std.specs.Prelude.{◌≢◌, Option, Some, None, Result, Ok, Err}
use Rattle.std.specs.Result.{IsErrAnd}
use Rattle.std.proofs.lemmas.List.{append-nil, drop_at, length-append, nil_from_length, take_all, take_at}
use Rattle.pon_lists.specs.Bytes.{AreBytes}
use Rattle.pon_device.specs.Device.{Consumes}
use Rattle.pon_record.specs.declared.stream_fault.StreamFault.{StreamFault}
use Rattle.pon_record.specs.declared.stream_fault.StreamFault.TheVariants.{BadFormat, Truncated, Read, Memory}
use Rattle.pon_record.specs.declared.version.Version.{Version}
use Rattle.pon_record.specs.Chapters.{IsCutShort, PlacedChapter, tagged_body_in}
use Rattle.pon_record.specs.ChapterReading.{BeginsWith}
use Rattle.pon_record.specs.Recordings.{Holds, IsBadFormat, IsNoChapter, IsRecording, IsTruncated, magic}
use Rattle.pon_record.specs.Streams.{CountsRead, Fills, GivesNext, HasFront, IsOfDevice, Opens, Position, StandsAfter}
use Rattle.pon_record.proofs.ChapterFronts.{ended, front_is, none_begins, stated}
use Rattle.pon_record.proofs.Magic.{magic_length}
use Rattle.pon_record.proofs.Reading.{holds_next, holds_none}

-- The magic bytes.

module _ (old new : Option (List ℕ)) (bytes head : List ℕ) (is : old ≡ Some bytes) (fills : Fills [] head 8 old new) where
  taken : Consumes old new head
  taken = subst (Consumes old new) (sym fills.grown) fills.taken

  few : length head ≤ 8
  few = fills.within (omega arith)

  all_of_head : take 8 head ≡ head
  all_of_head = take_all 8 head few

  --   the bytes of the head begin the recording
  begins : length head ≡ 8 → take 8 bytes ≡ take 8 head
  begins long = let after = stated old new bytes head is taken in ap (take 8) after.2 ∙ take_at head after.0 8 long ∙ sym all_of_head

  long_bytes : length head ≡ 8 → 8 ≤ length bytes
  long_bytes long = let after = stated old new bytes head is taken in omega (arith, long, ap (λ (l : List ℕ). length l) after.2, length-append head after.0)

  pub opened : (v : Version) → take 8 head ≡ magic v → StandsAfter bytes [] (record { version = v; at = 8 }) new
  opened v tells =
      let after = stated old new bytes head is taken in
      let long : length head ≡ 8 = ap (λ (l : List ℕ). length l) (sym all_of_head ∙ tells) ∙ magic_length v in
      let left : drop 8 bytes ≡ after.0 = ap (drop 8) after.2 ∙ drop_at head after.0 8 long in
      record {
        rest = after.0;
        is = after.1;
        holds = subst (Holds v bytes []) left (holds_none v bytes (begins long ∙ tells));
        there = omega (arith, long, ap (λ (l : List ℕ). length l) after.2, length-append head after.0);
      }

  pub other_magic : 8 ≤ length head → ((v : Version) → take 8 head ≢ magic v) → IsBadFormat bytes 0
  other_magic le other =
      let long : length head ≡ 8 = omega (arith, le, few) in
      inl (record { long = long_bytes long; other = λ v of e. other v (sym (begins long) ∙ e) }, refl)

  pub short_magic : length head < 8 → IsTruncated bytes 0 []
  short_magic short =
      let after = stated old new bytes head is taken in
      let none : after.0 ≡ [] = ended new after.0 after.1 (fills.ended short) in
      inl (omega (arith, short, ap (λ (l : List ℕ). length l) after.2, length-append head after.0, ap (λ (l : List ℕ). length l) none), refl, refl)

-- The next chapter.

module _ (bytes : List ℕ) (whole : List PlacedChapter) (v : Version) (at : ℕ) (old new : Option (List ℕ)) (front : List ℕ) (stands : StandsAfter bytes whole (record { version = v; at = at }) old) (has : HasFront old new front) where
  pub at_end : length front ≡ 0 → IsRecording bytes whole
  at_end none =
      let after = stated old new stands.rest front stands.is has.taken in
      let nothing : stands.rest ≡ [] = after.2 ∙ ap (λ (l : List ℕ). l ++ after.0) (nil_from_length front none) ∙ ended new after.0 after.1 (has.none none) in
      (v, refl, subst (Holds v bytes whole) nothing stands.holds)

  pub cut_here : IsCutShort front → IsTruncated bytes at whole
  cut_here cut =
      let after = stated old new stands.rest front stands.is has.taken in
      let all : stands.rest ≡ front = after.2 ∙ ap (λ (l : List ℕ). front ++ l) (ended new after.0 after.1 (has.cut cut)) ∙ append-nil front in
      inr (v, refl, record { rest = stands.rest; holds = stands.holds; cut = subst IsCutShort (sym all) cut; there = stands.there })

  pub none_here : 0 < length front → (tagged_body_in v).read front ≡ None → (IsCutShort front → ⊥) → IsBadFormat bytes at
  none_here some none uncut =
      let after = stated old new stands.rest front stands.is has.taken in
      let none : IsNoChapter v stands.rest = subst (IsNoChapter v) (sym after.2) (none_begins v front after.0 some none uncut has.within) in
      inr (v, refl, record { whole = whole; rest = stands.rest; holds = stands.holds; none = none; there = stands.there })

  pub one_further : (c : PlacedChapter) (size next : ℕ) → AreBytes front → BeginsWith v front at c size → next ≡ at + length front → StandsAfter bytes (whole ++ c ∷ []) (record { version = v; at = next }) new
  one_further c size next are begins moved =
      let after = stated old new stands.rest front stands.is has.taken in
      let all = front_is v front c at size are has.within begins in
      record {
        rest = after.0;
        is = after.1;
        holds = holds_next v bytes stands.rest after.0 whole c stands.holds all.0 (after.2 ∙ ap (λ (l : List ℕ). l ++ after.0) all.1) (omega (arith, begins.place, stands.there));
        there = omega (arith, stands.there, moved, ap (λ (l : List ℕ). length l) after.2, length-append front after.0);
      }

-- A fault of the device.

pub opens_failed : (bytes : List ℕ) (left : Option (List ℕ)) (r : Result Position StreamFault) (e : StreamFault) → IsErrAnd r (λ x. x ≡ e) → IsOfDevice e → Opens bytes left r
opens_failed bytes left (Ok x) e is of = absurd is
opens_failed bytes left (Err Read) e is of = tt
opens_failed bytes left (Err Memory) e is of = tt
opens_failed bytes left (Err (BadFormat at)) e is of = absurd (subst IsOfDevice (sym is) of)
opens_failed bytes left (Err (Truncated at)) e is of = absurd (subst IsOfDevice (sym is) of)

pub gives_failed : (bytes : List ℕ) (whole : List PlacedChapter) (p : Position) (left : Option (List ℕ)) (r : Result (Option PlacedChapter) StreamFault) (e : StreamFault) → IsErrAnd r (λ x. x ≡ e) → IsOfDevice e → GivesNext bytes whole p left r
gives_failed bytes whole p left (Ok x) e is of = absurd is
gives_failed bytes whole p left (Err Read) e is of = tt
gives_failed bytes whole p left (Err Memory) e is of = tt
gives_failed bytes whole p left (Err (BadFormat at)) e is of = absurd (subst IsOfDevice (sym is) of)
gives_failed bytes whole p left (Err (Truncated at)) e is of = absurd (subst IsOfDevice (sym is) of)

pub counts_failed : {T : Type 0} (old new : ℕ) (r : Result T StreamFault) (e : StreamFault) → IsErrAnd r (λ x. x ≡ e) → CountsRead {T = Unit {0}} old new (Err e) → CountsRead old new r
counts_failed {T} old new (Ok x) e is counts = absurd is
counts_failed {T} old new (Err x) Read is counts = subst (λ (f : StreamFault). CountsRead {T = T} old new (Err f)) (sym is) counts
counts_failed {T} old new (Err x) Memory is counts = subst (λ (f : StreamFault). CountsRead {T = T} old new (Err f)) (sym is) counts
counts_failed {T} old new (Err x) (BadFormat at) is counts = subst (λ (f : StreamFault). CountsRead {T = T} old new (Err f)) (sym is) counts
counts_failed {T} old new (Err x) (Truncated at) is counts = subst (λ (f : StreamFault). CountsRead {T = T} old new (Err f)) (sym is) counts
