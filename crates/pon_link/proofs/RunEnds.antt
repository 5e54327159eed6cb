-- The end of a reader's run: equal for every run over a stream.
use Rattle.std.proofs.Common.{◌≡◌, ℕ, ◌+◌, ◌<◌, ◌≤◌, ◌⊎◌, Bool, IsTrue, List, [], ◌++◌, length, get_or, Option, Some, None, inl, inr, refl, ap, sym, ◌∙◌, subst, length-append, arith}
use Rattle.std.proofs.lemmas.List.{append-nil, get_or_append_left}
use Rattle.pon_lists.specs.Bytes.{AreBytes}
use Rattle.pon_link.specs.Reading.{ReaderState, Announces, HasBadSize, HasBadTag, HasBadForm, HasRefusedMap, HasFault, MayBecomeRecord, IsWholeRecord, tag_of, header_len, bad_size}
use Rattle.pon_link.specs.Runs.{ComesTo}
use Rattle.pon_link.specs.declared.direction.Direction.{Direction}
use Rattle.pon_link.specs.declared.direction.Direction.TheVariants.{Up, Down}
use Rattle.pon_link.specs.declared.fault.LinkFault.{LinkFault}
use Rattle.pon_link.specs.declared.fault.LinkFault.TheVariants.{BadTag, BadCount, BadMap, Truncated}
use Rattle.pon_link.proofs.Sizes.{no_size, size_kept, size_before, more_needed, some_told}

-- the ends of a reader with a fault: the input ended, the tag is wrong, or the size or the map is
pub data Ends (d : Direction) (s : ReaderState) (f : LinkFault) : Type 0 where
  Cut : MayBecomeRecord d s.held → 0 < length s.held → IsTrue s.ended → f ≡ Truncated (length s.held) → Ends d s f
  Tag : HasBadTag d s.held → f ≡ BadTag → Ends d s f
  Form : header_len d ≤ length s.held → get_or s.held 0 0 ≡ tag_of d → HasBadSize d s.held ⊎ Announces d s.held (length s.held) → f ≡ bad_size d → Ends d s f

late : (s : ReaderState) (d e : Direction) (f : LinkFault) → s.direction ≡ d → s.direction ≡ e → f ≡ bad_size e → HasBadForm e s.held → Ends d s f
late s d e f is there bad form =
    let same : e ≡ d = sym there ∙ is in
    let here : HasBadForm d s.held = subst (λ (x : Direction). HasBadForm x s.held) same form in
    Form here.0 here.1 (inl here.2) (bad ∙ ap bad_size same)

refused : (s : ReaderState) (d : Direction) → s.direction ≡ d → s.direction ≡ Down → HasRefusedMap s.held → Ends d s BadMap
refused s d is down map =
    let same : Down ≡ d = sym down ∙ is in
    let whole : IsWholeRecord d s.held = subst (λ (x : Direction). IsWholeRecord x s.held) same map.0 in
    Form whole.told (whole.form.tag (omega (arith, whole.told, some_told d))) (inr whole.size) (ap bad_size same)

pub ends : (d : Direction) (s : ReaderState) (f : LinkFault) → s.direction ≡ d → HasFault s f → Ends d s f
ends d s BadTag is h = Tag (subst (λ (x : Direction). HasBadTag x s.held) is h) refl
ends d s BadCount is h = late s d Up BadCount is h.0 refl h.1
ends d s BadMap is h = elim h.1 [ inl form ↦ late s d Down BadMap is h.0 refl form | inr map ↦ refused s d is h.0 map ]
ends d s (Truncated left) is h = Cut (subst (λ (x : Direction). MayBecomeRecord x s.held) is h.1) (omega (arith, h.2, h.3)) h.0 (ap (λ (n : ℕ). Truncated n) h.3)

-- bytes that begin with a bad form or a whole record are not a proper prefix of a record
form_stays : (d : Direction) (held rest : List ℕ) → AreBytes (held ++ rest) → header_len d ≤ length held → HasBadSize d held ⊎ Announces d held (length held) → MayBecomeRecord d (held ++ rest) → ⊥
form_stays d held rest small ge bad b =
    let size : length (held ++ rest) ≡ length held + length rest = length-append held rest in
    let told = b.form.size (omega (arith, ge, size)) in
    elim bad [
      | inl none ↦ no_size d held told.0 none (size_before d held rest told.0 ge told.1)
      | inr whole ↦ omega (arith, size, more_needed d (held ++ rest) (length held) small (omega (arith, ge, size)) (size_kept d held rest (length held) ge whole) b)
    ]

-- nor are bytes that begin with a wrong tag
first_byte : (a b x y : List ℕ) → 0 < length a → 0 < length b → a ++ x ≡ b ++ y → get_or a 0 0 ≡ get_or b 0 0
first_byte a b x y la lb e = sym (get_or_append_left a x 0 0 la) ∙ ap (λ (t : List ℕ). get_or t 0 0) e ∙ get_or_append_left b y 0 0 lb

tag_stays : (d : Direction) (held rest : List ℕ) → HasBadTag d held → MayBecomeRecord d (held ++ rest) → ⊥
tag_stays d held rest bad b =
    let size : length (held ++ rest) ≡ length held + length rest = length-append held rest in
    bad.1 (sym (get_or_append_left held rest 0 0 bad.0) ∙ b.form.tag (omega (arith, bad.0, size)))

-- if all bytes are a proper prefix of a record, the only fault is `Truncated`
not_cut : (d : Direction) (s : ReaderState) (rest all : List ℕ) (f : LinkFault) → AreBytes all → s.held ++ rest ≡ all → MayBecomeRecord d all → Ends d s f → f ≡ Truncated (length s.held)
not_cut d s rest all f small e b (Cut c some over is) = is
not_cut d s rest all f small e b (Tag bad is) = absurd (tag_stays d s.held rest bad (subst (λ (t : List ℕ). MayBecomeRecord d t) (sym e) b))
not_cut d s rest all f small e b (Form ge tag bad is) = absurd (form_stays d s.held rest (subst AreBytes (sym e) small) ge bad (subst (λ (t : List ℕ). MayBecomeRecord d t) (sym e) b))

-- the held bytes are all bytes if none remain
all_held : (held rest all : List ℕ) → held ++ rest ≡ all → rest ≡ [] → held ≡ all
all_held held rest all e none = sym (append-nil held) ∙ ap (λ (t : List ℕ). held ++ t) (sym none) ∙ e

-- the fault of a bad size is not `Truncated`
late_cut : (d : Direction) (n : ℕ) → bad_size d ≡ Truncated n → ⊥
late_cut Up n e = cc
late_cut Down n e = cc

cut_size : (d : Direction) (s t : ReaderState) (y : List ℕ) → s.held ≡ t.held ++ y → (IsTrue t.ended → y ≡ []) → (g : LinkFault) → Ends d t g → g ≡ Truncated (length t.held) → Truncated (length s.held) ≡ g
cut_size d s t y held ys g (Cut c some over is) cut = ap (λ (h : List ℕ). Truncated (length h)) (held ∙ sym (all_held t.held y (t.held ++ y) refl (ys over))) ∙ sym is
cut_size d s t y held ys g (Tag bad is) cut = let no : BadTag ≡ Truncated (length t.held) = sym is ∙ cut in absurd (cc)
cut_size d s t y held ys g (Form ge tag bad is) cut = absurd (late_cut d (length t.held) (sym is ∙ cut))

two_faults : (d : Direction) (s t : ReaderState) (x y : List ℕ) (f g : LinkFault) → AreBytes (t.held ++ y) → s.held ++ x ≡ t.held ++ y → (IsTrue s.ended → x ≡ []) → (IsTrue t.ended → y ≡ []) → Ends d s f → Ends d t g → f ≡ g
two_faults d s t x y f g small e xs ys (Cut b some over is) k =
    let held = all_held s.held x (t.held ++ y) e (xs over) in
    let cut = not_cut d t y (t.held ++ y) g small refl (subst (λ (h : List ℕ). MayBecomeRecord d h) held b) k in
    is ∙ cut_size d s t y held ys g k cut
two_faults d s t x y f g small e xs ys (Tag bad is) (Cut b some over is2) =
    let held = all_held t.held y (s.held ++ x) (sym e) (ys over) in
    absurd (tag_stays d s.held x bad (subst (λ (h : List ℕ). MayBecomeRecord d h) held b))
two_faults d s t x y f g small e xs ys (Tag bad is) (Tag bad2 is2) = is ∙ sym is2
two_faults d s t x y f g small e xs ys (Tag bad is) (Form ge tag bad2 is2) = absurd (bad.1 (first_byte s.held t.held x y bad.0 (omega (arith, ge, some_told d)) e ∙ tag))
two_faults d s t x y f g small e xs ys (Form ge tag bad is) (Cut b some over is2) =
    let held = all_held t.held y (s.held ++ x) (sym e) (ys over) in
    absurd (form_stays d s.held x (subst AreBytes (sym e) small) ge bad (subst (λ (h : List ℕ). MayBecomeRecord d h) held b))
two_faults d s t x y f g small e xs ys (Form ge tag bad is) (Tag bad2 is2) = absurd (bad2.1 (first_byte t.held s.held y x bad2.0 (omega (arith, ge, some_told d)) (sym e) ∙ tag))
two_faults d s t x y f g small e xs ys (Form ge tag bad is) (Form ge2 tag2 bad2 is2) = is ∙ sym is2

-- a run without a fault and a run with one do not end on the same bytes
no_fault_there : (d : Direction) (over : Bool) (s t : ReaderState) (x y : List ℕ) (g : LinkFault) → s.direction ≡ d → t.direction ≡ d → AreBytes (t.held ++ y) → s.held ++ x ≡ t.held ++ y → ComesTo over s x None → ComesTo over t y (Some g) → ⊥
no_fault_there d over s t x y g sd td small e a b =
    let held = all_held s.held x (t.held ++ y) e a.1 in
    let begun : MayBecomeRecord d (t.held ++ y) = subst (λ (h : List ℕ). MayBecomeRecord d h) held (subst (λ (z : Direction). MayBecomeRecord z s.held) sd a.0.beginning) in
    by_end g (not_cut d t y (t.held ++ y) g small refl begun (ends d t g td b.0)) b
  where
    by_end : (g : LinkFault) → g ≡ Truncated (length t.held) → ComesTo over t y (Some g) → ⊥
    by_end BadTag is b = cc
    by_end BadCount is b = cc
    by_end BadMap is b = cc
    by_end (Truncated left) is b =
        let all = b.1 b.0.0 in
        let empty : t.held ≡ [] = all_held t.held y s.held (sym (all_held s.held x (t.held ++ y) e a.1)) all.1 ∙ a.2 all.0 in
        let none : length t.held ≡ 0 = ap (λ (h : List ℕ). length h) empty in
        omega (arith, none, b.0.2, b.0.3)

pub one_end : (d : Direction) (over : Bool) (s t : ReaderState) (x y : List ℕ) (f g : Option LinkFault) → s.direction ≡ d → t.direction ≡ d → AreBytes (s.held ++ x) → s.held ++ x ≡ t.held ++ y → ComesTo over s x f → ComesTo over t y g
    → (f ≡ g) × (f ≡ None → s.held ≡ t.held)
one_end d over s t x y None None sd td small e a b = (refl, λ _. all_held s.held x (t.held ++ y) e a.1 ∙ sym (all_held t.held y (t.held ++ y) refl b.1))
one_end d over s t x y None (Some g) sd td small e a b = absurd (no_fault_there d over s t x y g sd td (subst AreBytes e small) e a b)
one_end d over s t x y (Some f) None sd td small e a b = absurd (no_fault_there d over t s y x f td sd small (sym e) b a)
one_end d over s t x y (Some f) (Some g) sd td small e a b =
    let same : f ≡ g = two_faults d s t x y f g (subst AreBytes e small) e (λ ended. (a.1 ended).1) (λ ended. (b.1 ended).1) (ends d s f sd a.0) (ends d t g td b.0) in
    (ap (λ (h : LinkFault). Some h) same, λ none. absurd (cc))
