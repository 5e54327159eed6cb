use Rattle.std.proofs.Common.{rules}
use Rattle.pon_job.proofs.arguments.segments_of.Goals as goal

pub returns-in_err-maps-clause-none : goal.returns-in_err-maps-clause-none
returns-in_err-maps-clause-none c = λ _ segments are. c.in_err-maps.ensures.none (search rules) segments.maps are.each

pub returns-in_err-keep-clause-none : goal.returns-in_err-keep-clause-none
returns-in_err-keep-clause-none c = λ _ segments are. c.in_err-keep.ensures.none (search rules) segments.keep are.newest
