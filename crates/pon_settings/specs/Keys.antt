-- The keys of the three kinds of tables of settings.
use Rattle.std.specs.Prelude.{ℕ, Bool, List, [], ◌∷◌, codes}
use Rattle.std.specs.List.{list_any, list_all}
use Rattle.std.specs.Str.{bytes_eq}
use Rattle.toml.specs.Data.{Members, no_members, member}
use Rattle.pon_settings.specs.declared.place.Place.{Place}
use Rattle.pon_settings.specs.declared.place.Place.TheVariants.{Top, Port, Row}

-- the keys that a table may have
abbrev pub known_keys : Place → List (List ℕ)
known_keys Top = codes "port" ∷ []
known_keys Port = codes "gap" ∷ codes "profile" ∷ codes "first" ∷ codes "alloc" ∷ []
known_keys Row = codes "onu" ∷ codes "alloc" ∷ codes "fixed" ∷ codes "assured" ∷ codes "max" ∷ codes "class" ∷ codes "queue" ∷ []

abbrev pub is_known : Place → List ℕ → Bool
is_known place key = list_any (λ k. bytes_eq key k) (known_keys place)

-- the keys of a table
abbrev pub keys_of : Members → List (List ℕ)
keys_of no_members = []
keys_of (member key d ms) = key ∷ keys_of ms

abbrev pub has_known_keys : Place → Members → Bool
has_known_keys place t = list_all (is_known place) (keys_of t)
