-- What a map gives to the admitted Alloc-IDs, with each number that it follows from.
use Rattle.std.specs.Prelude.{◌≡◌}
use Rattle.pon_cert.specs.declared.cert.MapCert.{MapCert}
use Rattle.pon_demand.specs.ClassShares.{best_effort_surplus, non_assured_surplus}
use Rattle.pon_demand.specs.Sharing.{IsCertified}
use Rattle.pon_state.specs.State.{State, input_of}
use Rattle.pon_why.specs.Explanations.{explanations_of}
use Rattle.pon_look.specs.declared.replay.MapExplanation.{MapExplanation}

-- what a map gives, with an accepted certificate: each number is that of the definitions
pub record Explains (s : State) (cert : MapCert) (x : MapExplanation) : Type 0 where
  pub certified : IsCertified (input_of s) cert
  pub rows : x.rows.items ≡ explanations_of s cert
  pub non_assured : x.non_assured ≡ non_assured_surplus (input_of s)
  pub best_effort : x.best_effort ≡ best_effort_surplus (input_of s) cert
