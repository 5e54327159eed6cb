use Rattle.std.proofs.Common.{◌^◌, ◌<◌, rules}
use Rattle.pon_record.proofs.FitChapters.{chapter_fits}
use Rattle.pon_record.proofs.writing.chapters.prove_fits.Goals as goal

pub returns : goal.returns
returns c =
    let numbered : c.args.chapter.now.number < 2 ^ 64 = search rules in
    chapter_fits c.args.port c.args.chapter.now c.get-port.ensures.range c.entries-entries.ensures.lawful numbered c.opening-opening.ensures.in_range
