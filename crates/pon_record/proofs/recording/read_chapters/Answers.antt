use Rattle.std.proofs.Common.{◌-◌, ◌<◌, length, refl, arith, rules, subst}
use Rattle.pon_lists.specs.Bytes.{AreBytes}
use Rattle.pon_record.specs.ChapterReading.{BeginsWith, HasNoChapter}
use Rattle.pon_record.proofs.Reading.{holds_more, no_chapter, no_chapter_at}
use Rattle.pon_record.proofs.recording.read_chapters.Goals as goal

pub loop-rest-preserved : goal.loop-rest-preserved
loop-rest-preserved c =
    let are : AreBytes c.args.bytes.now = λ k. omega (arith, c.type_inv.bytes k) in
    let begins : BeginsWith c.args.version c.loop-rest.rest.now (length c.args.bytes.now - length c.loop-rest.rest.now) c.in-Ok.chapter c.in-Ok.size = c.in-Ok.ensures in
    rw (c.in_ok-push-in-Ok.ensures, c.split_at.ensures.back) record {
      holds = holds_more c.args.version c.args.bytes.now c.loop-rest.rest.now c.loop-rest.whole c.in-Ok.chapter (length c.args.bytes.now - length c.loop-rest.rest.now) c.in-Ok.size are c.loop-rest.invariant.holds refl begins;
    }

pub returns-in-Err-Malformed-clause-fault : goal.returns-in-Err-Malformed-clause-fault
returns-in-Err-Malformed-clause-fault c =
    let some : 0 < length c.loop-rest.rest.now = search rules in
    let none = subst (HasNoChapter c.args.version c.loop-rest.rest.now) c.in-Err-Malformed.field-0-is c.in-Err-Malformed.ensures in
    no_chapter_at c.args.version c.args.bytes.now c.loop-rest.rest.now c.loop-rest.whole c.loop-rest.invariant.holds (no_chapter c.args.version c.loop-rest.rest.now some none.0 none.1)
