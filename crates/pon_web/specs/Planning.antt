-- What the host learns of management lines.
use Rattle.std.specs.Prelude.{ℕ, ◌≡◌, List, [], ◌∷◌}
use Rattle.pon_admit.specs.declared.port_cfg.PortCfg.{PortCfg}
use Rattle.pon_plant.specs.Plants.{opened_ports}
use Rattle.pon_manage.specs.Text.{IsOutput}
use Rattle.pon_web.specs.Handing.{HandsOut}
use Rattle.pon_web.specs.declared.planning.TheConstants.{FIRST_FRAME, GAP, PROFILE}
use Rattle.pon_web.specs.declared.status.TheConstants.{GOOD}

-- the only port, as it is opened
abbrev pub only_port : PortCfg × ℕ
only_port = (record { gap = GAP; profile = PROFILE }, FIRST_FRAME)

-- the replies to all lines, one after another, at the port
pub record TellsReplies (lines : List ℕ) (status : ℕ) (before after : List ℕ) (told : ℕ) : Type 0 where
  pub replies : List ℕ
  pub is : IsOutput (opened_ports (only_port ∷ [])) lines replies
  pub status_is : status ≡ GOOD
  pub text : HandsOut replies before after told
