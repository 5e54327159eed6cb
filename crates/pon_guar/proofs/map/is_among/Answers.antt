use Rattle.std.proofs.Common.{◌∙◌, sym}
use Rattle.pon_guar.proofs.Polls.{among_first, among_none}
use Rattle.pon_guar.proofs.map.is_among.Goals as goal

pub returns-in-Some : goal.returns-in-Some
returns-in-Some c = c.eq.ensures ∙ among_first c.args.onu _ c.args.onus.now _ c.requires (sym c.in-Some.ensures.cases.0 ∙ c.split_at.ensures.back ∙ c.place_among.ensures.others)

pub returns-in-None : goal.returns-in-None
returns-in-None c = among_none c.args.onu c.args.onus.now _ c.in-None.ensures.cases (c.split_at.ensures.back ∙ c.place_among.ensures.others)
