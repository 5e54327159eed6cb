-- Rows that are admitted one after another.
use Rattle.std.proofs.Common.{◌≡◌, ℕ, zero, suc, ◌<◌, List, [], ◌∷◌, ◌++◌, map, length, take, get_or, refl, ap, ◌∙◌, sym, inl, inr, ◌⊎◌}
use Rattle.std.specs.Prelude.{Option, Some, None, option_map, slice_get, fold}
use Rattle.std.proofs.lemmas.List.{map-append}
use Rattle.std.proofs.lemmas.Option.{same_Some, slice_get-map, slice_get_read}
use Rattle.toml.specs.Data.{Data}
use Rattle.pon_admit.specs.Roster.{Roster, with_row}
use Rattle.pon_admit.specs.declared.row.Row.{Row}
use Rattle.pon_settings.specs.Rows.{SettingsRow, row_at, row_refusal, roster_after, fault_at, AreAdmitted, SpellsRows, IsRowsFault, IsToldAs, IsAdmissionFault}
use Rattle.pon_settings.specs.declared.row.RowFault.{RowFault}
use Rattle.pon_descr.specs.declared.refusal.Refusal.{Refusal}
use Rattle.toml.specs.declared.value.Value.{Value}
use Rattle.toml.specs.View.{view}

-- the first k + 1 elements of a list
pub take_one_more : {A : Type 0} (xs : List A) (k : ℕ) (x : A) → slice_get xs k ≡ Some x → take (suc k) xs ≡ take k xs ++ x ∷ []
take_one_more [] k x is = absurd cc
take_one_more (y ∷ xs) zero x is = ap (λ z. z ∷ []) (same_Some y x is)
take_one_more (y ∷ xs) (suc k) x is = ap (λ zs. y ∷ zs) (take_one_more xs k x is)

-- an element of a list with one more at its end is one of the list, or the last
pub last_or_earlier : {A : Type 0} (xs : List A) (y : A) (k : ℕ) (x : A) → slice_get (xs ++ y ∷ []) k ≡ Some x
    → (slice_get xs k ≡ Some x) × (take k (xs ++ y ∷ []) ≡ take k xs) ⊎ (x ≡ y) × (take k (xs ++ y ∷ []) ≡ xs)
last_or_earlier [] y zero x is = inr (sym (same_Some y x is), refl)
last_or_earlier [] y (suc k) x is = absurd cc
last_or_earlier (z ∷ xs) y zero x is = inl (is, refl)
last_or_earlier (z ∷ xs) y (suc k) x is =
    elim (last_or_earlier xs y k x is) [
      | inl h ↦ inl (h.0, ap (λ zs. z ∷ zs) h.1)
      | inr h ↦ inr (h.0, ap (λ zs. z ∷ zs) h.1)
    ]

fold_last : {A B : Type 0} (f : B → A → B) (b : B) (xs : List A) (y : A) → fold f b (xs ++ y ∷ []) ≡ f (fold f b xs) y
fold_last f b [] y = refl
fold_last f b (x ∷ xs) y = fold_last f (f b x) xs y

-- the roster after one more row
pub one_more_admitted : (gap : ℕ) (rows : List SettingsRow) (r : SettingsRow)
    → roster_after gap (rows ++ r ∷ []) ≡ record { rule = (roster_after gap rows).rule; gap = gap; rows = with_row r.row (roster_after gap rows).rows }
one_more_admitted gap rows r = ap (λ (rs : List Row). let s : Roster = record { rule = (roster_after gap rows).rule; gap = gap; rows = rs } in s) (fold_last _ [] rows r)

pub still_admitted : (gap : ℕ) (rows : List SettingsRow) (r : SettingsRow) → AreAdmitted gap rows → row_refusal (roster_after gap rows) r.row ≡ None → AreAdmitted gap (rows ++ r ∷ [])
still_admitted gap rows r all last k x is =
    elim (last_or_earlier rows r k x is) [
      | inl h ↦ rw h.1 (all k x h.0)
      | inr h ↦ rw (h.1, h.0) last
    ]

-- one more table, whose row is admitted after the others
pub one_more_row : (gap : ℕ) (tables : List Data) (rows : List SettingsRow) (k : ℕ) (d : Data) (r : SettingsRow) → SpellsRows gap (take k tables) rows → slice_get tables k ≡ Some d
    → row_at d ≡ Some r → row_refusal (roster_after gap rows) r.row ≡ None → SpellsRows gap (take (suc k) tables) (rows ++ r ∷ [])
one_more_row gap tables rows k d r so_far here spelled accepted = record {
  each = ap (map row_at) (take_one_more tables k d here) ∙ map-append row_at (take k tables) (d ∷ []) ∙ rw (so_far.each, spelled) (sym (map-append Some rows (r ∷ [])));
  admitted = still_admitted gap rows r so_far.admitted accepted;
}

abbrev Stands : ℕ → ℕ → List Data → ℕ → RowFault → Type 0
Stands port gap tables k fault = IsRowsFault port gap tables (fault_at port k fault)

refused_at : (port gap : ℕ) (tables : List Data) (k : ℕ) (d : Data) (before : List SettingsRow) (fault : RowFault) (r : SettingsRow) (o : Option Refusal)
    → slice_get tables k ≡ Some d → SpellsRows gap (take k tables) before → row_at d ≡ Some r → row_refusal (roster_after gap before) r.row ≡ o → IsToldAs o fault → Stands port gap tables k fault
refused_at port gap tables k d before fault r None here earlier spelled refused is = rw is tt
refused_at port gap tables k d before fault r (Some why) here earlier spelled refused is =
    rw is (refl, record { table = d; here = here; before = before; earlier = earlier; fault = (r, spelled, refused) })

no_row_at : (port gap : ℕ) (tables : List Data) (k : ℕ) (d : Data) (before : List SettingsRow) (fault : RowFault) (o : Option SettingsRow)
    → slice_get tables k ≡ Some d → SpellsRows gap (take k tables) before → row_at d ≡ o → IsAdmissionFault (roster_after gap before) o fault → Stands port gap tables k fault
no_row_at port gap tables k d before fault None here earlier spelled is =
    rw is (refl, record { table = d; here = here; before = before; earlier = earlier; fault = spelled })
no_row_at port gap tables k d before fault (Some r) here earlier spelled is = refused_at port gap tables k d before fault r _ here earlier spelled refl is

-- a table that is at fault after rows that are admitted
pub first_fault : (port gap : ℕ) (tables : List Data) (k : ℕ) (d : Data) (before : List SettingsRow) (fault : RowFault)
    → slice_get tables k ≡ Some d → SpellsRows gap (take k tables) before → IsAdmissionFault (roster_after gap before) (row_at d) fault → IsRowsFault port gap tables (fault_at port k fault)
first_fault port gap tables k d before fault here earlier is = no_row_at port gap tables k d before fault _ here earlier refl is

-- the value at an index, as its data
pub view_at : (vs : List Value) (k : ℕ) (v : Value) → k < length vs → v ≡ get_or vs k v → slice_get (map view vs) k ≡ Some (view v)
view_at vs k v h is = slice_get-map view vs k ∙ ap (option_map view) (slice_get_read vs (length vs) k v refl h is)
