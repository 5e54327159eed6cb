use Rattle.std.proofs.Common.{◌≡◌, ◌∷◌, ◌++◌, ◌∙◌, ap, sym, length, List, ℕ, ◌^◌, ◌<◌, All, arith, subst}
use Rattle.pon_bwmap.specs.MapBytes.{map_bytes}
use Rattle.pon_bwmap.proofs.ReadsBack.{map_length}
use Rattle.std.specs.Int.{w64, to_be_bytes}
use Rattle.pon_bwmap.specs.Alloc.{Alloc}
use Rattle.pon_bwmap.specs.MapRules.{IsMap}
use Rattle.pon_bwmap.specs.MapReading.{FitsStructure}
use Rattle.pon_link.proofs.Left.{record_spelled}
use Rattle.pon_link.proofs.WrittenDown.{written_record}
use Rattle.pon_link.proofs.writer.write_record.Goals as goal

pub returns-clause-bytes : goal.returns-clause-bytes
returns-clause-bytes c =
    let map = map_bytes c.args.map.now in
    let frame : c.copy_from_slice.new.self ≡ to_be_bytes w64 c.args.frame = c.copy_from_slice.ensures.after ∙ c.to_be_bytes.ensures ∙ ap (λ (n : ℕ). to_be_bytes w64 n) c.get.ensures in
    let eight : length c.copy_from_slice.new.self ≡ 8 = ap (λ (t : List ℕ). length t) frame in
    let size : length map ≡ c.write_map.result = map_length c.args.map.now ∙ sym c.write_map.ensures.count in
    record_spelled c.args.room.now c.copy_from_slice.new.self c.write_map.new.room map _ 68 c.write_map.result _ (omega (arith, c.requires)) eight size c.write_map.ensures.bytes
    ∙ ap (λ (t : List ℕ). 68 ∷ (t ++ map)) frame

pub returns-clause-reads : goal.returns-clause-reads
returns-clause-reads c =
    let lt : c.args.frame < 2 ^ 64 = omega (arith, c.get.ensures, c.get.type_inv) in
    let map : IsMap c.args.map.now = subst IsMap c.rows-rows.ensures.rows c.rows-rows.ensures.map in
    let fits : All FitsStructure c.args.map.now = subst (λ (rs : List Alloc). All FitsStructure rs) c.rows-rows.ensures.rows c.rows-rows.ensures.fits in
    written_record c.args.frame c.args.map.now lt map fits
