-- The paths of states that lines lead along.
use Rattle.std.proofs.Common.{ℕ, List, [], ◌++◌, length, subst, sym}
use Rattle.std.specs.Prelude.{Option}
use Rattle.std.proofs.lemmas.List.{map-append}
use Rattle.pon_line.proofs.LongLines.{read_line-take}
use Rattle.pon_plant.specs.Turning.{KeepsChapters}
use Rattle.pon_plant.proofs.Turning.{gives_joined, keeps_here, keeps_joined}
use Rattle.pon_record.specs.Chapters.{Body}
use Rattle.pon_record.specs.Bodies.{chapter_body}
use Rattle.pon_recorder.specs.Whole.{RecordsAll}
use Rattle.pon_recorder.proofs.Whole.{records_both, records_none}
use Rattle.pon_text.specs.Giving.{IsPath, ReadsFirst}
use Rattle.pon_manage.specs.Recorded.{AnswersInRoom, GivesRecorded, RecordsTurned, turned_bodies}
use Rattle.pon_manage.specs.declared.recorded.RecordedPlant.{RecordedPlant}

-- any state may follow any other
abbrev pub AnyState : {S : Type 0} → S → S → Type 0
AnyState old new = Unit {0}

pub any_path : {S : Type 0} → IsPath {S = S} AnyState
any_path = record { here = λ s. tt; joined = λ a b c f s. tt }

-- ports that keep their chapters
pub keeps_path : IsPath KeepsChapters
keeps_path = record { here = keeps_here; joined = keeps_joined }

module _ {D : Type 0} (contents : D → Option (List ℕ)) where
  records_here : (s : RecordedPlant D) → RecordsTurned contents s s
  records_here s = record { turned = []; gives = keeps_here s.plant; takes = records_none s.recorder (contents s.recorder.file.device) }

  records_joined : (a b c : RecordedPlant D) → RecordsTurned contents a b → RecordsTurned contents b c → RecordsTurned contents a c
  records_joined a b c f s = record {
    turned = f.turned ++ s.turned;
    gives = gives_joined a.plant b.plant c.plant f.turned s.turned f.gives s.gives;
    takes = subst (λ (bodies : List Body). RecordsAll a.recorder c.recorder (contents a.recorder.file.device) (contents c.recorder.file.device) bodies)
        (sym (map-append (λ t. chapter_body t.0 t.1) f.turned s.turned))
        (records_both a.recorder b.recorder c.recorder (contents a.recorder.file.device) (contents b.recorder.file.device) (contents c.recorder.file.device) (turned_bodies f.turned) (turned_bodies s.turned) f.takes s.takes);
  }

  -- ports whose chapters a recorder takes
  pub records_path : IsPath (RecordsTurned contents)
  records_path = record { here = records_here; joined = records_joined }

-- a line has the same text as its first 4,097 bytes, also at ports with a recorder
pub recorded_gives_first : {D : Type 0} → ReadsFirst (GivesRecorded {D = D})
recorded_gives_first {D} old line text new = (
  subst (λ r. AnswersInRoom old.plant r text new.plant) (read_line-take (length old.plant) line),
  subst (λ r. AnswersInRoom old.plant r text new.plant) (sym (read_line-take (length old.plant) line)),
)
