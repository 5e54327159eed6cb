-- The steps of the answer of a simulated ONU, structure by structure.
use Rattle.std.proofs.Common.{◌≡◌, ℕ, ◌+◌, ◌-◌, ◌<◌, ◌≤◌, ◌==◌, ◌&&◌, ◌||◌, min, Bool, true, false, if◌then◌else◌, List, [], ◌∷◌, ◌++◌, length, take, drop, suc, get_or, map, filter, Option, Some, refl, ap, sym, ◌∙◌, subst, append_assoc, length-append, add-one, drop-cons, arith}
use Rattle.std.specs.List.{list_any}
use Rattle.std.proofs.lemmas.List.{append-nil, drop_all}
use Rattle.std.proofs.Math.Seq.{take-nil}
use Rattle.pon_units.specs.declared.limits.TheConstants.{MAX_OCCUPANCY, MAX_SERIES}
use Rattle.pon_bwmap.specs.Alloc.{Alloc}
use Rattle.pon_link.specs.Units.{asks, answered, waiting, queue_after, served, reported_occupancies}

-- the Alloc-IDs of queues are unchanged
id_kept : (a : Alloc) (q : ℕ × ℕ) → (queue_after a q).0 ≡ q.0
id_kept a q = elim (q.0 == a.id) as (λ b. (if b then (q.0, q.1 - (a.grant - 1)) else q).0 ≡ q.0) [ true ↦ refl | false ↦ refl ]

own_kept : (a : Alloc) (queues : List (ℕ × ℕ)) (id : ℕ) → list_any (λ q. q.0 == id) (map (queue_after a) queues) ≡ list_any (λ q. q.0 == id) queues
own_kept a [] id = refl
own_kept a (q ∷ queues) id = ap (λ (n : ℕ). (n == id) || list_any (λ p. p.0 == id) (map (queue_after a) queues)) (id_kept a q) ∙ ap (λ (b : Bool). (q.0 == id) || b) (own_kept a queues id)

-- After k structures, the reports so far, followed by those for the other structures, are the whole answer.
pub record HasAnswered (first : List (ℕ × ℕ)) (rows : List Alloc) (k : ℕ) (queues : List (ℕ × ℕ)) (occ : List (Option ℕ)) : Type 0 where
  pub few : length occ ≤ MAX_SERIES
  pub own : (id : ℕ) → list_any (λ q. q.0 == id) queues ≡ list_any (λ q. q.0 == id) first
  pub reports_are : occ ++ reported_occupancies queues (take (16 - length occ) (filter (asks first) (drop k rows))) ≡ reported_occupancies first (answered first rows)
  pub queues_are : served queues (take (16 - length occ) (filter (asks first) (drop k rows))) ≡ served first (answered first rows)

pub none_answered : (first : List (ℕ × ℕ)) (rows : List Alloc) → HasAnswered first rows 0 first []
none_answered first rows = record { few = omega arith; own = λ id. refl; reports_are = refl; queues_are = refl }

pub all_answered : (first : List (ℕ × ℕ)) (rows : List Alloc) (k : ℕ) (queues : List (ℕ × ℕ)) (occ : List (Option ℕ)) → HasAnswered first rows k queues occ → length rows ≤ k → (occ ≡ reported_occupancies first (answered first rows)) × (queues ≡ served first (answered first rows))
all_answered first rows k queues occ h end =
    let none : drop k rows ≡ [] = drop_all k rows end in
    let rest : take (16 - length occ) (filter (asks first) (drop k rows)) ≡ [] = ap (λ (t : List Alloc). take (16 - length occ) (filter (asks first) t)) none ∙ take-nil (16 - length occ) in (
      sym (append-nil occ) ∙ ap (λ (t : List Alloc). occ ++ reported_occupancies queues t) (sym rest) ∙ h.reports_are,
      ap (λ (t : List Alloc). served queues t) (sym rest) ∙ h.queues_are,
    )

-- the structures from number k on
from_row : (rows : List Alloc) (k : ℕ) (a : Alloc) → k < length rows → a ≡ get_or rows k a → drop k rows ≡ a ∷ drop (k + 1) rows
from_row rows k a lt is =
    let next : drop k rows ≡ get_or rows k a ∷ drop (k + 1) rows = rw add-one (drop-cons rows k a lt) in
    next ∙ ap (λ (x : Alloc). x ∷ drop (k + 1) rows) (sym is)

-- a structure that requests no report is skipped
pub passed_over : (first : List (ℕ × ℕ)) (rows : List Alloc) (k : ℕ) (queues : List (ℕ × ℕ)) (occ : List (Option ℕ)) (a : Alloc) → HasAnswered first rows k queues occ → k < length rows → a ≡ get_or rows k a → asks first a ≡ false → HasAnswered first rows (k + 1) queues occ
passed_over first rows k queues occ a h lt is not =
    let others : filter (asks first) (drop k rows) ≡ filter (asks first) (drop (k + 1) rows)
    = ap (λ (t : List Alloc). filter (asks first) t) (from_row rows k a lt is) ∙ ap (λ (b : Bool). if b then a ∷ filter (asks first) (drop (k + 1) rows) else filter (asks first) (drop (k + 1) rows)) not in
    record {
      few = h.few;
      own = h.own;
      reports_are = ap (λ (t : List Alloc). occ ++ reported_occupancies queues (take (16 - length occ) t)) (sym others) ∙ h.reports_are;
      queues_are = ap (λ (t : List Alloc). served queues (take (16 - length occ) t)) (sym others) ∙ h.queues_are;
    }

-- a structure that requests a report is answered
pub is_answered : (first : List (ℕ × ℕ)) (rows : List Alloc) (k : ℕ) (queues : List (ℕ × ℕ)) (occ : List (Option ℕ)) (a : Alloc) → HasAnswered first rows k queues occ → k < length rows → a ≡ get_or rows k a → length occ < MAX_SERIES → asks first a ≡ true → HasAnswered first rows (k + 1) (map (queue_after a) queues) (occ ++ Some (min (waiting queues a.id) MAX_OCCUPANCY) ∷ [])
is_answered first rows k queues occ a h lt is room asked =
    let report = Some (min (waiting queues a.id) MAX_OCCUPANCY) in
    let later = filter (asks first) (drop (k + 1) rows) in
    let grown : length (occ ++ report ∷ []) ≡ length occ + 1 = length-append occ (report ∷ []) in
    let others : filter (asks first) (drop k rows) ≡ a ∷ later
    = ap (λ (t : List Alloc). filter (asks first) t) (from_row rows k a lt is) ∙ ap (λ (b : Bool). if b then a ∷ later else later) asked in
    let more : 16 - length occ ≡ suc (16 - length (occ ++ report ∷ [])) = omega (arith, grown, room) in
    let next : take (16 - length occ) (filter (asks first) (drop k rows)) ≡ a ∷ take (16 - length (occ ++ report ∷ [])) later
    = ap (λ (t : List Alloc). take (16 - length occ) t) others ∙ ap (λ (n : ℕ). take n (a ∷ later)) more in
    record {
      few = omega (arith, grown, room);
      own = λ id. own_kept a queues id ∙ h.own id;
      reports_are = append_assoc occ (report ∷ []) _ ∙ ap (λ (t : List Alloc). occ ++ reported_occupancies queues t) (sym next) ∙ h.reports_are;
      queues_are = ap (λ (t : List Alloc). served queues t) (sym next) ∙ h.queues_are;
    }

-- with 16 answers there is room for no more
pub no_room : (first : List (ℕ × ℕ)) (rows : List Alloc) (k : ℕ) (queues : List (ℕ × ℕ)) (occ : List (Option ℕ)) → HasAnswered first rows k queues occ → 16 ≤ length occ → HasAnswered first rows (k + 1) queues occ
no_room first rows k queues occ h full =
    let none : 16 - length occ ≡ 0 = omega (arith, full) in
    let same : take (16 - length occ) (filter (asks first) (drop (k + 1) rows)) ≡ take (16 - length occ) (filter (asks first) (drop k rows))
    = ap (λ (n : ℕ). take n (filter (asks first) (drop (k + 1) rows))) none ∙ sym (ap (λ (n : ℕ). take n (filter (asks first) (drop k rows))) none) in
    record {
      few = h.few;
      own = h.own;
      reports_are = ap (λ (t : List Alloc). occ ++ reported_occupancies queues t) same ∙ h.reports_are;
      queues_are = ap (λ (t : List Alloc). served queues t) same ∙ h.queues_are;
    }

-- a structure requests a report of the reduced queues exactly when it requests one of the first queues
pub asks_alike : (first queues : List (ℕ × ℕ)) (a : Alloc) → ((id : ℕ) → list_any (λ q. q.0 == id) queues ≡ list_any (λ q. q.0 == id) first) → asks queues a ≡ asks first a
asks_alike first queues a own = ap (λ (b : Bool). a.dbru && b) (own a.id)

-- one more structure
pub one_more : (first : List (ℕ × ℕ)) (rows : List Alloc) (k : ℕ) (queues queues2 : List (ℕ × ℕ)) (occ occ2 : List (Option ℕ)) (a : Alloc) → HasAnswered first rows k queues occ → k < length rows → a ≡ get_or rows k a → length occ < MAX_SERIES → (asks queues a ≡ true → (occ2 ≡ occ ++ Some (min (waiting queues a.id) MAX_OCCUPANCY) ∷ []) × (queues2 ≡ map (queue_after a) queues)) → (asks queues a ≡ false → (occ2 ≡ occ) × (queues2 ≡ queues)) → HasAnswered first rows (k + 1) queues2 occ2
one_more first rows k queues queues2 occ occ2 a h lt is room if_asked if_not =
    let alike = asks_alike first queues a h.own in
    let P : Bool → Type 0 = λ b. asks queues a ≡ b → HasAnswered first rows (k + 1) queues2 occ2 in
    let both : P (asks queues a) = elim (asks queues a) as P [
      | true ↦ λ t.
          let e = if_asked t in
          subst (λ (qs : List (ℕ × ℕ)). HasAnswered first rows (k + 1) qs occ2) (sym e.1)
          (subst (λ (os : List (Option ℕ)). HasAnswered first rows (k + 1) (map (queue_after a) queues) os) (sym e.0) (is_answered first rows k queues occ a h lt is room (sym alike ∙ t)))
      | false ↦ λ t.
          let e = if_not t in
          subst (λ (qs : List (ℕ × ℕ)). HasAnswered first rows (k + 1) qs occ2) (sym e.1)
          (subst (λ (os : List (Option ℕ)). HasAnswered first rows (k + 1) queues os) (sym e.0) (passed_over first rows k queues occ a h lt is (sym alike ∙ t)))
    ] in
    both refl
