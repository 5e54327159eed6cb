-- Carries in map order, and by Alloc-ID.
use Rattle.std.proofs.Common.{◌≡◌, ℕ, suc, ◌<◌, ◌≤◌, true, false, List, [], ◌∷◌, ◌++◌, map, length, take, drop, get_or, refl, ap, sym, ◌∙◌, arith, inl, inr}
use Rattle.std.specs.Prelude.{◌==◌, ◌||◌, if◌then◌else◌, All, count_by}
use Rattle.std.specs.List.{insert, remove}
use Rattle.std.proofs.lemmas.Bool.{cases_Bool, eq-eqb, eqb-true, ne_eqb, or_parts}
use Rattle.std.proofs.lemmas.List.{drop-map, get_or-map, map-append, take-map, get_or_default, length-map}
use Rattle.std.proofs.lemmas.List.Elements.{All-head, All-tail, All-map}
use Rattle.pon_admit.specs.declared.row.Row.{Row}
use Rattle.pon_admit.specs.Roster.{IsDistinct, IsInMapOrder, comes_before, has_alloc, with_row, without, max_carry}
use Rattle.pon_admit.proofs.OneRow.{Stands, insert_in_order, remove_found}
use Rattle.pon_demand.specs.Carries.{carries_of, number_of, AreCarries}
use Rattle.pon_admit.specs.declared.rule.Rule.{Rule}

-- a carry is in the range of all of them
pub carry_within : (most : ℕ) (rows : List Row) (carries : List ℕ) (i : ℕ) → All (λ c. c ≤ most) carries → number_of rows carries i ≤ most
carry_within most [] carries i h = omega arith
carry_within most (r ∷ rows) [] i h = omega arith
carry_within most (r ∷ rows) (c ∷ carries) i h = elim (r.alloc_id == i) as (λ b. (if b then c else number_of rows carries i) ≤ most) [
  | true ↦ All-head (λ c. c ≤ most) c carries h
  | false ↦ carry_within most rows carries i (All-tail (λ c. c ≤ most) c carries h)
]

-- another carry at the front changes nothing for rows of other Alloc-IDs
later : (q : Row) (c : ℕ) (rows : List Row) (carries : List ℕ) (rs : List Row) → has_alloc q.alloc_id rs ≡ false →
    carries_of (number_of (q ∷ rows) (c ∷ carries)) rs ≡ carries_of (number_of rows carries) rs
later q c rows carries [] h = refl
later q c rows carries (r ∷ rs) h =
    let two : ((r.alloc_id == q.alloc_id) ≡ false) × (has_alloc q.alloc_id rs ≡ false) = or_parts (r.alloc_id == q.alloc_id) (has_alloc q.alloc_id rs) h in
    let other : (q.alloc_id == r.alloc_id) ≡ false = ne_eqb q.alloc_id r.alloc_id (λ e. let t : true ≡ false = sym (eq-eqb r.alloc_id q.alloc_id (sym e)) ∙ two.0 in absurd cc) in
    (λ j. (if other j then c else number_of rows carries r.alloc_id) ∷ later q c rows carries rs two.1 j)

-- the carries by Alloc-ID, in map order, are the carries
pub carries_each : (rows : List Row) (carries : List ℕ) → IsDistinct rows → length carries ≡ length rows → carries_of (number_of rows carries) rows ≡ carries
carries_each [] [] apart same = refl
carries_each [] (c ∷ carries) apart same = absurd (omega (arith, same))
carries_each (q ∷ rows) [] apart same = absurd (omega (arith, same))
carries_each (q ∷ rows) (c ∷ carries) apart same =
    (λ j. (if eq-eqb q.alloc_id q.alloc_id refl j then c else number_of rows carries q.alloc_id)
    ∷ (later q c rows carries rows apart.0 ∙ carries_each rows carries apart.1 (omega (arith, same))) j)

-- the carry at the index of a row is that of its Alloc-ID
pub carry_at_row : (rows : List Row) (carries : List ℕ) (r : Row) (i d : ℕ) → IsDistinct rows → length carries ≡ length rows → i < length rows → get_or rows i r ≡ r →
    get_or carries i d ≡ number_of rows carries r.alloc_id
carry_at_row rows carries r i d apart same lt is =
    ap (λ l. get_or l i d) (sym (carries_each rows carries apart same)) ∙ get_or-map (λ q. number_of rows carries q.alloc_id) rows i r d lt ∙ ap (λ q. number_of rows carries q.alloc_id) is

-- the carry of a row that gets its carry from its Alloc-ID
pub carry_known : (f : ℕ → ℕ) (i : ℕ) (rows : List Row) → has_alloc i rows ≡ true → number_of rows (carries_of f rows) i ≡ f i
carry_known f i [] h = absurd (let t : false ≡ true = h in cc)
carry_known f i (r ∷ rows) h = elim (cases_Bool (r.alloc_id == i)) [
  | inl e ↦ ap (λ b. if b then f r.alloc_id else number_of rows (carries_of f rows) i) e ∙ ap f (eqb-true r.alloc_id i e)
  | inr e ↦ ap (λ b. if b then f r.alloc_id else number_of rows (carries_of f rows) i) e ∙ carry_known f i rows (sym (ap (λ b. b || has_alloc i rows) e) ∙ h)
]

-- Places.

map-insert : {X Y : Type 0} (f : X → Y) (xs : List X) (k : ℕ) (x : X) → map f (insert xs k x) ≡ insert (map f xs) k (f x)
map-insert f xs k x = map-append f (take k xs) (x ∷ drop k xs) ∙ (λ j. sym (take-map f k xs) j ++ f x ∷ sym (drop-map f k xs) j)

map-remove : {X Y : Type 0} (f : X → Y) (xs : List X) (k : ℕ) → map f (remove xs k) ≡ remove (map f xs) k
map-remove f xs k = map-append f (take k xs) (drop (suc k) xs) ∙ (λ j. sym (take-map f k xs) j ++ sym (drop-map f (suc k) xs) j)

-- the carries once a row with carry 0 is admitted
others_same : (i : ℕ) (f : ℕ → ℕ) (rows : List Row) → has_alloc i rows ≡ false → carries_of (λ j. if i == j then 0 else f j) rows ≡ carries_of f rows
others_same i f [] h = refl
others_same i f (r ∷ rows) h =
    let two : ((r.alloc_id == i) ≡ false) × (has_alloc i rows ≡ false) = or_parts (r.alloc_id == i) (has_alloc i rows) h in
    let other : (i == r.alloc_id) ≡ false = ne_eqb i r.alloc_id (λ e. let t : true ≡ false = sym (eq-eqb r.alloc_id i (sym e)) ∙ two.0 in absurd cc) in
    (λ j. (if other j then 0 else f r.alloc_id) ∷ others_same i f rows two.1 j)

pub carries_admitted : (r : Row) (rows : List Row) (carries : List ℕ) (k : ℕ) → IsInMapOrder rows → IsDistinct rows → length carries ≡ length rows → has_alloc r.alloc_id rows ≡ false →
    k ≡ count_by (λ s. comes_before s r) rows → insert carries k 0 ≡ carries_of (λ j. if r.alloc_id == j then 0 else number_of rows carries j) (with_row r rows)
carries_admitted r rows carries k order apart same free place =
    let f : ℕ → ℕ = λ j. if r.alloc_id == j then 0 else number_of rows carries j in
    let were : carries_of f rows ≡ carries = others_same r.alloc_id (number_of rows carries) rows free ∙ carries_each rows carries apart same in
    let none : f r.alloc_id ≡ 0 = ap (λ b. if b then 0 else number_of rows carries r.alloc_id) (eq-eqb r.alloc_id r.alloc_id refl) in
    (λ j. insert (sym were j) k (sym none j)) ∙ sym (map-insert (λ q. f q.alloc_id) rows k r) ∙ ap (carries_of f) (insert_in_order r rows k order place)

-- the carries once a row is removed
pub carries_removed : (i k : ℕ) (x : Row) (rows : List Row) (carries : List ℕ) → Stands i k x rows → length carries ≡ length rows →
    remove carries k ≡ carries_of (number_of rows carries) (without i rows)
carries_removed i k x rows carries s same =
    ap (λ l. remove l k) (sym (carries_each rows carries s.apart same)) ∙ sym (map-remove (λ q. number_of rows carries q.alloc_id) rows k) ∙ ap (carries_of (number_of rows carries)) (remove_found i k x rows s)

-- an Alloc-ID without a row has the number 0
pub number_absent : (i : ℕ) (rows : List Row) (ns : List ℕ) → has_alloc i rows ≡ false → number_of rows ns i ≡ 0
number_absent i [] ns h = refl
number_absent i (r ∷ rows) [] h = refl
number_absent i (r ∷ rows) (n ∷ ns) h =
    let two : ((r.alloc_id == i) ≡ false) × (has_alloc i rows ≡ false) = or_parts (r.alloc_id == i) (has_alloc i rows) h in
    ap (λ b. if b then n else number_of rows ns i) two.0 ∙ number_absent i rows ns two.1

-- of numbers for each row, that of a row's Alloc-ID is its own
pub number_at : (f : Row → ℕ) (rows : List Row) → IsDistinct rows → All (λ r. number_of rows (map f rows) r.alloc_id ≡ f r) rows
number_at f rows apart n d lt =
    let r : Row = get_or rows n d in
    sym (carry_at_row rows (map f rows) r n 0 apart (length-map rows f) lt (get_or_default rows n r d lt)) ∙ get_or-map f rows n r 0 lt ∙ ap f (get_or_default rows n r d lt)

-- a carry for each row, if that of each is in range
pub carries_at : (rule : Rule) (rows : List Row) (carry : Row → ℕ) → ((r : Row) → carry r ≤ max_carry rule) → AreCarries rule rows (map carry rows)
carries_at rule rows carry small = record { count = length-map rows carry; range = All-map (λ c. c ≤ max_carry rule) carry rows (λ n d lt. small (get_or rows n d)) }
