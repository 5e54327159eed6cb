-- Tables and arrays as the maps and lists that they represent.
use Rattle.std.proofs.Common.{◌≡◌, ℕ, Bool, ◌&&◌, List, [], ◌∷◌, map, String, Global, string_bytes, refl, ap, ◌∙◌, sym}
use Rattle.std.specs.Prelude.{Some, option_and_then}
use Rattle.std.specs.List.{list_all}
use Rattle.std.specs.Map.{keys_of as map_keys}
use Rattle.toml.specs.Data.{Data, as_array}
use Rattle.toml.specs.declared.value.Value.{Value}
use Rattle.toml.specs.View.{view, items_view, members_view}
use Rattle.pon_settings.specs.Keys.{keys_of}
use Rattle.pon_settings.specs.Fields.{elements, if_tables, tables}

-- the keys of a map are those of its members
pub same_keys : (test : List ℕ → Bool) (es : List (String Global × Value)) → list_all (λ k. test (string_bytes k)) (map_keys es) ≡ list_all test (keys_of (members_view es))
same_keys test [] = refl
same_keys test (e ∷ es) = ap (λ b. test (string_bytes e.0) && b) (same_keys test es)

-- the elements of an array are the values of its list
pub same_elements : (vs : List Value) → elements (items_view vs) ≡ map view vs
same_elements [] = refl
same_elements (v ∷ vs) = ap (λ ds. view v ∷ ds) (same_elements vs)

pub all_view : (test : Data → Bool) (vs : List Value) → list_all (λ v. test (view v)) vs ≡ list_all test (map view vs)
all_view test [] = refl
all_view test (v ∷ vs) = ap (λ b. test (view v) && b) (all_view test vs)

-- a list of values is a list of tables or not
pub tables_of : (d : Data) (vs : List Value) → Some (items_view vs) ≡ as_array d → tables d ≡ if_tables (map view vs)
tables_of d vs is = ap (option_and_then (λ ds. if_tables (elements ds))) (sym is) ∙ ap if_tables (same_elements vs)
