-- Fields that are appended to bytes, one after another.
use Rattle.std.proofs.Common.{◌≡◌, ℕ, ◌+◌, ◌*◌, List, ◌++◌, length, take, refl, ap, ◌∙◌, append_assoc, arith}
use Rattle.std.specs.Int.{w8, to_be_bytes}
use Rattle.std.proofs.lemmas.List.{take_at}
use Rattle.pon_bwmap.specs.MapBytes.{map_bytes}
use Rattle.pon_bwmap.specs.Alloc.{Alloc}
use Rattle.pon_bwmap.proofs.ReadsBack.{map_length}
use Rattle.pon_admit.specs.declared.event.Event.{Event}
use Rattle.pon_admit.specs.declared.event.Event.TheVariants.{Admit, Change, Remove, Report, MakeMap, Fail, Restore}
use Rattle.pon_record.specs.Events.{event, event_fields, event_tag}
use Rattle.pon_record.specs.MadeMaps.{map}

pub put_after : (old a b x y : List ℕ) → x ≡ old ++ a → y ≡ x ++ b → y ≡ old ++ (a ++ b)
put_after old a b x y first second = second ∙ ap (λ (l : List ℕ). l ++ b) first ∙ append_assoc old a b

-- the tag of an event and its fields are its bytes
pub tagged : (e : Event) → to_be_bytes w8 (event_tag e) ++ event_fields e ≡ event.write e
tagged (Admit r) = refl
tagged (Change i d) = refl
tagged (Remove i) = refl
tagged (Report f u occ) = refl
tagged MakeMap = refl
tagged (Fail c) = refl
tagged Restore = refl

-- the bytes of a map are those of its format
pub map_written : (rows : List Alloc) → map_bytes rows ≡ map.write rows
unfolding map_bytes
map_written rows = refl

-- the bytes of a map at the front of a buffer
pub map_in_room : (room rest : List ℕ) (rows : List Alloc) (n : ℕ) → n ≡ 4 + 8 * length rows → room ≡ map_bytes rows ++ rest → take n room ≡ map.write rows
map_in_room room rest rows n size is =
    ap (λ (l : List ℕ). take n l) is ∙ take_at (map_bytes rows) rest n (omega (arith, map_length rows, size)) ∙ map_written rows
