use Rattle.pon_link.proofs.Outcomes.{waits, sound, down_waits, down_sound, faultless, one_fault, memory_waits, memory_sound}
use Rattle.pon_link.proofs.laws.one_outcome.Goals as goal

pub returns : goal.returns
returns c = record { waits = waits; sound = sound; down_waits = down_waits; down_sound = down_sound; faultless = faultless; one_fault = one_fault; memory_waits = memory_waits; memory_sound = memory_sound }
