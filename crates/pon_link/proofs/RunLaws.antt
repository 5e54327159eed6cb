-- The records that a reader returns are those of the bytes that it took, whatever the pieces.
use Rattle.std.proofs.Common.{◌≡◌, ℕ, ◌+◌, ◌<◌, ◌≤◌, Bool, IsTrue, List, [], ◌∷◌, ◌++◌, length, get_or, Option, Some, None, inl, inr, refl, ap, sym, ◌∙◌, subst, append_assoc, length-append, arith}
use Rattle.std.proofs.lemmas.List.{append-nil, get_or_append_left}
use Rattle.pon_link.specs.UpRecords.{IsRecord}
use Rattle.pon_link.specs.DownRecords.{IsDownRecord}
use Rattle.pon_link.specs.Reading.{ReaderState, empty, holds_more, tag_of, header_len, Announces, MayBecomeRecord, HasFault}
use Rattle.pon_link.specs.declared.direction.Direction.{Direction}
use Rattle.pon_link.specs.declared.direction.Direction.TheVariants.{Up, Down}
use Rattle.pon_link.specs.declared.fault.LinkFault.{LinkFault}
use Rattle.pon_link.specs.Runs.{ReaderStep, Took, Gave, Ended, at_end, Leads, bytes_taken, given, AreRecords, ComesTo, RunsOver}
use Rattle.pon_lists.specs.Bytes.{AreBytes}
use Rattle.pon_lists.proofs.Bytes.{bytes-front, bytes-back}
use Rattle.pon_link.proofs.DownReading.{down_size, one_down_record}
use Rattle.pon_link.proofs.OneReading.{same_cut, one_record}
use Rattle.pon_link.proofs.Outcomes.{sound as up_sound, down_sound}
use Rattle.pon_link.proofs.RunEnds.{Ends, Cut, Tag, Form, ends, one_end}
use Rattle.pon_link.proofs.Sizes.{one_size, size_kept, size_before, more_needed, some_told, no_size}

leads_reads : {R : Type 0} (Is : List ℕ → R → Type 0) (s : ReaderState) (steps : List (ReaderStep R)) (t : ReaderState) → Leads Is s steps t → AreRecords Is (s.held ++ bytes_taken steps) (given steps) t.held
leads_reads Is s [] t e = append-nil s.held ∙ ap (λ (r : ReaderState). r.held) e
leads_reads Is s (Took piece ∷ steps) t h =
    subst (λ (bytes : List ℕ). AreRecords Is bytes (given steps) t.held) (append_assoc s.held piece (bytes_taken steps)) (leads_reads Is (holds_more s piece) steps t h)
leads_reads Is s (Gave r ∷ steps) t h = (s.held, bytes_taken steps, refl, h.0, leads_reads Is (empty s.direction) steps t h.1)
leads_reads Is s (Ended ∷ steps) t h = leads_reads Is (at_end s) steps t h.2

pub nothing_is_lost : {R : Type 0} (Is : List ℕ → R → Type 0) (d : Direction) (steps : List (ReaderStep R)) (s : ReaderState) → Leads Is (empty d) steps s → AreRecords Is (bytes_taken steps) (given steps) s.held
nothing_is_lost Is d steps s h = leads_reads Is (empty d) steps s h

-- The facts that make a direction's records unambiguous: each has the tag and gives its size, and bytes are at most one
-- record.
pub record AreTold {R : Type 0} (Is : List ℕ → R → Type 0) (d : Direction) : Type 0 where
  pub tag : (bytes : List ℕ) (r : R) → Is bytes r → get_or bytes 0 0 ≡ tag_of d
  pub told : (bytes : List ℕ) (r : R) → Is bytes r → header_len d ≤ length bytes
  pub size : (bytes : List ℕ) (r : R) → Is bytes r → Announces d bytes (length bytes)
  pub one : (bytes rest : List ℕ) (r s : R) → AreBytes (bytes ++ rest) → Is bytes r → Is bytes s → r ≡ s
  pub sound : (s : ReaderState) (r : R) (f : LinkFault) → s.direction ≡ d → AreBytes s.held → Is s.held r → HasFault s f → ⊥

pub up_told : AreTold IsRecord Up
up_told = record {
  tag = λ bytes r h. h.tag;
  told = λ bytes r h. omega (arith, h.size);
  size = λ bytes r h. (omega (arith, h.count, h.some), omega (arith, h.count, h.limit), omega (arith, h.count, h.size));
  one = one_record;
  sound = λ s r f up small h fault. up_sound s r f up h fault;
}

pub down_told : AreTold IsDownRecord Down
down_told = record {
  tag = λ bytes r h. h.tag;
  told = λ bytes r h. omega (arith, h.size);
  size = down_size;
  one = one_down_record;
  sound = down_sound;
}

-- the size of a record that is followed by any bytes
size_after : {R : Type 0} (Is : List ℕ → R → Type 0) (d : Direction) → AreTold Is d → (bytes first rest : List ℕ) (r : R) → bytes ≡ first ++ rest → Is first r → Announces d bytes (length first)
size_after Is d t bytes first rest r e h =
    subst (λ (b : List ℕ). Announces d b (length first)) (sym e) (size_kept d first rest (length first) (t.told first r h) (t.size first r h))

-- two records followed by bytes are split at the same index
record_cut : {R : Type 0} (Is : List ℕ → R → Type 0) (d : Direction) → AreTold Is d → (a b x y : List ℕ) (r s : R) → AreBytes (a ++ x) → Is a r → Is b s → a ++ x ≡ b ++ y → (a ≡ b) × (x ≡ y)
record_cut Is d t a b x y r s small h k e =
    let first = size_after Is d t (a ++ x) a x r refl h in
    let second = size_after Is d t (a ++ x) b y s e k in
    same_cut a b x y (one_size d (a ++ x) (length a) (length b) small first second) e

-- a proper prefix of a record does not begin with a whole one
no_record_yet : {R : Type 0} (Is : List ℕ → R → Type 0) (d : Direction) → AreTold Is d → (held first rest : List ℕ) (r : R) → AreBytes held → MayBecomeRecord d held → held ≡ first ++ rest → Is first r → ⊥
no_record_yet Is d t held first rest r small b e h =
    let size : length held ≡ length first + length rest = ap (λ (s : List ℕ). length s) e ∙ length-append first rest in
    let long : header_len d ≤ length held = omega (arith, size, t.told first r h) in
    omega (arith, size, more_needed d held (length first) small long (size_after Is d t held first rest r e h) b)

-- no prefix of these bytes is a record
abbrev NoRecord : {R : Type 0} → (List ℕ → R → Type 0) → List ℕ → Type 0
NoRecord {R = R} Is bytes = (first more : List ℕ) (r : R) → bytes ≡ first ++ more → Is first r → ⊥

one_way : {R : Type 0} (Is : List ℕ → R → Type 0) (d : Direction) → AreTold Is d → (bytes : List ℕ) (rs ss : List R) (held kept : List ℕ) → AreBytes bytes → NoRecord Is held → NoRecord Is kept → AreRecords Is bytes rs held → AreRecords Is bytes ss kept → (rs ≡ ss) × (held ≡ kept)
one_way Is d t bytes [] [] held kept small b c h k = (refl, sym h ∙ k)
one_way Is d t bytes [] (s ∷ ss) held kept small b c h k = absurd (b k.0 k.1 s (sym h ∙ k.2) k.3)
one_way Is d t bytes (r ∷ rs) [] held kept small b c h k = absurd (c h.0 h.1 r (sym k ∙ h.2) h.3)
one_way Is d t bytes (r ∷ rs) (s ∷ ss) held kept small b c h k =
    let cut = record_cut Is d t h.0 k.0 h.1 k.1 r s (subst AreBytes h.2 small) h.3 k.3 (sym h.2 ∙ k.2) in
    let here : AreBytes (k.0 ++ k.1) = subst AreBytes k.2 small in
    let first : r ≡ s = t.one k.0 k.1 r s here (subst (λ (a : List ℕ). Is a r) cut.0 h.3) k.3 in
    let rest = one_way Is d t k.1 rs ss held kept (bytes-back k.0 k.1 here) b c (subst (λ (a : List ℕ). AreRecords Is a rs held) cut.1 h.4) k.4 in
    (λ i. first i ∷ rest.0 i, rest.1)

-- ---- the end of a run

-- bytes appended to those that a run took are appended to those that it holds
pub records_after : {R : Type 0} (Is : List ℕ → R → Type 0) (bytes rest : List ℕ) (rs : List R) (held : List ℕ) → AreRecords Is bytes rs held → AreRecords Is (bytes ++ rest) rs (held ++ rest)
records_after Is bytes rest [] held h = ap (λ (t : List ℕ). t ++ rest) h
records_after Is bytes rest (r ∷ rs) held h = (h.0, h.1 ++ rest, ap (λ (t : List ℕ). t ++ rest) h.2 ∙ append_assoc h.0 h.1 rest, h.3, records_after Is h.1 rest rs held h.4)

-- records, followed by others
pub records_joined : {R : Type 0} (Is : List ℕ → R → Type 0) (bytes more : List ℕ) (rs others : List R) (held : List ℕ) → AreRecords Is bytes rs [] → AreRecords Is more others held → AreRecords Is (bytes ++ more) (rs ++ others) held
records_joined Is bytes more [] others held h k = subst (λ (t : List ℕ). AreRecords Is (t ++ more) others held) (sym h) k
records_joined Is bytes more (r ∷ rs) others held h k = (h.0, h.1 ++ more, ap (λ (t : List ℕ). t ++ more) h.2 ∙ append_assoc h.0 h.1 more, h.3, records_joined Is h.1 more rs others held h.4 k)

-- the bytes after the records are one more record
pub held_record : {R : Type 0} (Is : List ℕ → R → Type 0) (bytes : List ℕ) (rs : List R) (held : List ℕ) (r : R) → AreRecords Is bytes rs held → Is held r → AreRecords Is bytes (rs ++ r ∷ []) []
held_record Is bytes [] held r h is = (held, [], h ∙ sym (append-nil held), is, refl)
held_record Is bytes (s ∷ rs) held r h is = (h.0, h.1, h.2, h.3, held_record Is h.1 rs held r h.4 is)

held_bytes : {R : Type 0} (Is : List ℕ → R → Type 0) (bytes : List ℕ) (rs : List R) (held : List ℕ) → AreBytes bytes → AreRecords Is bytes rs held → AreBytes held
held_bytes Is bytes [] held small h = subst AreBytes h small
held_bytes Is bytes (r ∷ rs) held small h = held_bytes Is h.1 rs held (bytes-back h.0 h.1 (subst AreBytes h.2 small)) h.4

direction_kept : {R : Type 0} (Is : List ℕ → R → Type 0) (s : ReaderState) (steps : List (ReaderStep R)) (t : ReaderState) → Leads Is s steps t → t.direction ≡ s.direction
direction_kept Is s [] t h = sym (ap (λ (r : ReaderState). r.direction) h)
direction_kept Is s (Took piece ∷ steps) t h = direction_kept Is (holds_more s piece) steps t h
direction_kept Is s (Gave r ∷ steps) t h = direction_kept Is (empty s.direction) steps t h.1
direction_kept Is s (Ended ∷ steps) t h = direction_kept Is (at_end s) steps t h.2

-- no prefix of a proper prefix of a record is a record
none_begun : {R : Type 0} (Is : List ℕ → R → Type 0) (d : Direction) → AreTold Is d → (held rest : List ℕ) → AreBytes (held ++ rest) → MayBecomeRecord d held → rest ≡ [] → NoRecord Is (held ++ rest)
none_begun Is d t held rest small b none first more r e h =
    let same : held ++ rest ≡ held = ap (λ (x : List ℕ). held ++ x) none ∙ append-nil held in
    no_record_yet Is d t held first more r (subst AreBytes same small) b (sym same ∙ e) h

-- no prefix of bytes with a fault is a record
none_faulty : {R : Type 0} (Is : List ℕ → R → Type 0) (d : Direction) → AreTold Is d → (s : ReaderState) (rest : List ℕ) (f : LinkFault) → s.direction ≡ d → AreBytes (s.held ++ rest) → Ends d s f → (IsTrue s.ended → rest ≡ []) → HasFault s f → NoRecord Is (s.held ++ rest)
none_faulty Is d t s rest f is small (Cut b some over e) end fault first more r same h = none_begun Is d t s.held rest small b (end over) first more r same h
none_faulty Is d t s rest f is small (Tag bad e) end fault first more r same h =
    let long : 0 < length first = omega (arith, t.told first r h, some_told d) in
    let there : get_or s.held 0 0 ≡ tag_of d = sym (get_or_append_left s.held rest 0 0 bad.0) ∙ ap (λ (x : List ℕ). get_or x 0 0) same ∙ get_or_append_left first more 0 0 long ∙ t.tag first r h in
    bad.1 there
none_faulty Is d t s rest f is small (Form ge tag (inl bad) e) end fault first more r same h =
    let size = size_before d s.held rest (length first) ge (size_after Is d t (s.held ++ rest) first more r same h) in
    no_size d s.held (length first) bad size
none_faulty Is d t s rest f is small (Form ge tag (inr whole) e) end fault first more r same h =
    let all = s.held ++ rest in
    let size : Announces d all (length s.held) = size_kept d s.held rest (length s.held) ge whole in
    let cut = same_cut s.held first rest more (one_size d all (length s.held) (length first) small size (size_after Is d t all first more r same h)) same in
    t.sound s r f is (bytes-front s.held rest small) (subst (λ (x : List ℕ). Is x r) (sym cut.0) h) fault

no_record_left : {R : Type 0} (Is : List ℕ → R → Type 0) (d : Direction) → AreTold Is d → (over : Bool) (s : ReaderState) (rest : List ℕ) (f : Option LinkFault) → s.direction ≡ d → AreBytes (s.held ++ rest) → ComesTo over s rest f → NoRecord Is (s.held ++ rest)
no_record_left Is d t over s rest None is small c = none_begun Is d t s.held rest small (subst (λ (e : Direction). MayBecomeRecord e s.held) is c.0.beginning) c.1
no_record_left Is d t over s rest (Some f) is small c = none_faulty Is d t s rest f is small (ends d s f is c.0) (λ ended. (c.1 ended).1) c.0

pub whatever_the_pieces : {R : Type 0} (Is : List ℕ → R → Type 0) (d : Direction) → AreTold Is d → (stream : List ℕ) (over : Bool) (steps others : List (ReaderStep R)) (s t : ReaderState) (f g : Option LinkFault) → AreBytes stream → RunsOver Is d stream over steps s f → RunsOver Is d stream over others t g → (given steps ≡ given others) × (f ≡ g) × (f ≡ None → s.held ≡ t.held)
whatever_the_pieces Is d told stream over steps others s t f g small a b =
    let first : AreRecords Is stream (given steps) (s.held ++ a.rest) = subst (λ (x : List ℕ). AreRecords Is x (given steps) (s.held ++ a.rest)) a.stream_is (records_after Is (bytes_taken steps) a.rest (given steps) s.held (nothing_is_lost Is d steps s a.leads)) in
    let second : AreRecords Is stream (given others) (t.held ++ b.rest) = subst (λ (x : List ℕ). AreRecords Is x (given others) (t.held ++ b.rest)) b.stream_is (records_after Is (bytes_taken others) b.rest (given others) t.held (nothing_is_lost Is d others t b.leads)) in
    let up = direction_kept Is (empty d) steps s a.leads in
    let down = direction_kept Is (empty d) others t b.leads in
    let here = held_bytes Is stream (given steps) (s.held ++ a.rest) small first in
    let there = held_bytes Is stream (given others) (t.held ++ b.rest) small second in
    let same = one_way Is d told stream (given steps) (given others) (s.held ++ a.rest) (t.held ++ b.rest) small (no_record_left Is d told over s a.rest f up here a.comes_to) (no_record_left Is d told over t b.rest g down there b.comes_to) first second in
    let end = one_end d over s t a.rest b.rest f g up down here same.1 a.comes_to b.comes_to in
    (same.0, end.0, end.1)

-- a proper prefix of a record may become a record
pub no_record_is_refused : {R : Type 0} (Is : List ℕ → R → Type 0) (d : Direction) → AreTold Is d → (bytes rest : List ℕ) (r : R) → 0 < length rest → Is (bytes ++ rest) r → MayBecomeRecord d bytes
no_record_is_refused Is d t bytes rest r more h =
    let whole = length (bytes ++ rest) in
    let size : length (bytes ++ rest) ≡ length bytes + length rest = length-append bytes rest in
    let told : header_len d ≤ length bytes → Announces d bytes (length (bytes ++ rest)) = λ le. size_before d bytes rest whole le (t.size (bytes ++ rest) r h) in
    record {
      form = record {
        tag = λ lt. sym (get_or_append_left bytes rest 0 0 lt) ∙ t.tag (bytes ++ rest) r h;
        size = λ le. (whole, told le);
      };
      more = λ le. (whole, told le, omega (arith, size, more));
    }

-- bytes are at most one record
pub one_reading : {R : Type 0} (Is : List ℕ → R → Type 0) (d : Direction) → AreTold Is d → (bytes : List ℕ) (r s : R) → AreBytes bytes → Is bytes r → Is bytes s → r ≡ s
one_reading Is d t bytes r s small h k = t.one bytes [] r s (subst AreBytes (sym (append-nil bytes)) small) h k
