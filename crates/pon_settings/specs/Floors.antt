-- Rows of best effort without a floor.
use Rattle.std.specs.Prelude.{◌==◌, ◌&&◌, Bool, false, Option, Some, None}
use Rattle.pon_descr.specs.declared.class.Class.{Class}
use Rattle.pon_descr.specs.declared.class.Class.TheVariants.{BestEffort}
use Rattle.pon_admit.specs.Roster.{Roster}
use Rattle.pon_admit.specs.declared.row.Row.{Row}
use Rattle.pon_sure.specs.Sure.{sure_of}
use Rattle.pon_sure.specs.declared.sure.Sure.{Sure}

-- nothing is guaranteed, and no part of the surplus is sure
abbrev pub has_none : Option Sure → Bool
has_none None = false
has_none (Some s) = s.guaranteed == 0 && s.surplus == 0

-- in best effort
abbrev pub lacks_in : Class → Option Sure → Bool
lacks_in BestEffort sure = has_none sure
lacks_in _ sure = false

-- a row of a roster is of best effort and has no floor
abbrev pub lacks_floor : Roster → Row → Bool
lacks_floor s r = lacks_in r.descriptor.class (sure_of s r.alloc_id)
