use Rattle.std.proofs.Common.{◌≡◌, ◌-◌, ◌<◌, [], length, drop, refl, ◌∙◌, arith, rules, subst}
use Rattle.std.proofs.lemmas.List.{nil_from_length}
use Rattle.std.proofs.lemmas.Result.{err_from_is_err_and}
use Rattle.pon_lists.specs.Bytes.{AreBytes}
use Rattle.pon_record.specs.declared.fault.ReadFault.TheVariants.{BadFormat, Memory}
use Rattle.pon_record.specs.declared.version.Version.TheVariants.{One}
use Rattle.pon_record.specs.ChapterReading.{HasNoChapter}
use Rattle.pon_record.specs.Migrations.{IsMigrationFault}
use Rattle.pon_record.proofs.Reading.{holds_none, no_chapter, no_chapter_at}
use Rattle.pon_record.proofs.MovedChapters.{all_moved, at_front, cut_inside, fault_of_migration, one_more_moved}
use Rattle.pon_record.proofs.migration.migrate_chapters.Goals as goal

pub put_chapter-requires-clause-fits : goal.put_chapter-requires-clause-fits
put_chapter-requires-clause-fits c =
    let are : AreBytes c.args.bytes.now = λ k. omega (arith, c.type_inv.bytes k) in
    (at_front c.args.bytes.now c.loop-rest.rest.now c.loop-rest.out.items c.in-Ok.chapter (length c.args.bytes.now - length c.loop-rest.rest.now) c.in-Ok.size are c.loop-rest.invariant c.in-Ok.ensures).fits

pub put_chapter-requires-clause-is : goal.put_chapter-requires-clause-is
put_chapter-requires-clause-is c =
    let are : AreBytes c.args.bytes.now = λ k. omega (arith, c.type_inv.bytes k) in
    c.split_at.ensures.front ∙ (at_front c.args.bytes.now c.loop-rest.rest.now c.loop-rest.out.items c.in-Ok.chapter (length c.args.bytes.now - length c.loop-rest.rest.now) c.in-Ok.size are c.loop-rest.invariant c.in-Ok.ensures).is

pub loop-rest-preserved : goal.loop-rest-preserved
loop-rest-preserved c =
    let are : AreBytes c.args.bytes.now = λ k. omega (arith, c.type_inv.bytes k) in
    rw c.split_at.ensures.back (one_more_moved c.args.bytes.now c.loop-rest.rest.now c.loop-rest.out.items c.put_chapter.new.out.items c.in-Ok.chapter (length c.args.bytes.now - length c.loop-rest.rest.now) c.in-Ok.size are c.loop-rest.invariant refl c.in-Ok.ensures c.in_ok-put_chapter-in-Ok.ensures)

pub cut_short-requires : goal.cut_short-requires
cut_short-requires c =
    let cut = subst (HasNoChapter One c.loop-rest.rest.now) c.in-Err-CutShort.field-0-is c.in-Err-CutShort.ensures in
    cut_inside c.args.bytes.now c.loop-rest.rest.now c.loop-rest.out.items c.loop-rest.invariant cut

pub returns-in-Err-Malformed-clause-fault : goal.returns-in-Err-Malformed-clause-fault
returns-in-Err-Malformed-clause-fault c =
    let some : 0 < length c.loop-rest.rest.now = search rules in
    let none = subst (HasNoChapter One c.loop-rest.rest.now) c.in-Err-Malformed.field-0-is c.in-Err-Malformed.ensures in
    let m = c.loop-rest.invariant in
    fault_of_migration c.args.bytes.now (BadFormat (length c.args.bytes.now - length c.loop-rest.rest.now)) (no_chapter_at One c.args.bytes.now c.loop-rest.rest.now m.whole m.holds (no_chapter One c.loop-rest.rest.now some none.0 none.1))

pub returns-clause-ok : goal.returns-clause-ok
returns-clause-ok c =
    let none : length c.loop-rest.rest.now ≡ 0 = search rules in
    all_moved c.args.bytes.now c.loop-rest.rest.now c.loop-rest.out.items (nil_from_length c.loop-rest.rest.now none) c.loop-rest.invariant

pub returns-in_err-out-clause-fault : goal.returns-in_err-out-clause-fault
returns-in_err-out-clause-fault c =
    let p = err_from_is_err_and c.from_residual.result c.from_residual.ensures.1 in
    let memory : IsMigrationFault c.args.bytes.now Memory = ([], drop 8 c.args.bytes.now, holds_none One c.args.bytes.now c.requires.magic) in
    rw (p.1, p.2) memory
