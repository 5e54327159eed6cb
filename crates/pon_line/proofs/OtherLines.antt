-- A command other than `map` and `report` requests no map and brings no report.
use Rattle.std.proofs.Common.{◌≡◌, ℕ, List, [], ◌∷◌, refl, subst, sym}
use Rattle.std.specs.Prelude.{◌≢◌, ◌||◌, nat_lt, IfSome, Option, Some, Result, Ok, Err}
use Rattle.pon_descr.specs.Descriptor.{Descriptor}
use Rattle.pon_admit.specs.declared.event.Event.{Event}
use Rattle.pon_admit.specs.declared.event.Event.TheVariants as event
use Rattle.pon_lists.specs.ResultSteps.{◌>>=◌}
use Rattle.pon_line.specs.Commands.{admit, admit_of, alloc_of, change, change_of, fail_of, remove_of}
use Rattle.pon_line.specs.Fields.{alloc_in, descriptor_in, descriptor_words, number_field, onu_in, rate_fields}
use Rattle.pon_line.specs.Parts.{IsOtherEvent, IsOtherReading}
use Rattle.pon_line.specs.Places.{at_word}
use Rattle.pon_line.specs.Reading.{by_command, by_name, request_of}
use Rattle.pon_line.specs.Table.{command_of}
use Rattle.pon_line.specs.declared.fault.LineFault.TheVariants.{BadField}
use Rattle.pon_line.specs.declared.fault.LineRefusal.{LineRefusal}
use Rattle.pon_line.specs.declared.field.Field.TheVariants as field
use Rattle.pon_line.specs.declared.reading.Reading.TheVariants.{AsksCert, AsksState, AsksRows, AsksHelp, AsksStop}
use Rattle.pon_line.specs.declared.table.Command.{Command}
use Rattle.pon_line.specs.declared.table.Command.TheVariants.{Admit, Change, Remove, Report, Map, Fail, Restore, Cert, Show, List as Lists, Why, Sure, Help, Stop}
use Rattle.pon_line.proofs.AskedEvents.{Reads, alone, asks_explained, asks_promised, asks_shown, asks_taken, chosen}

step : {A : Type 0} (r : Result A LineRefusal) (f : A → Result Event LineRefusal) → ((x : A) → Reads IsOtherEvent (f x)) → Reads IsOtherEvent (r >>= f)
step (Ok x) f h = h x
step (Err refusal) f h = tt

admits : (onu alloc : ℕ) (d : Descriptor) → Reads IsOtherEvent (admit onu alloc d)
unfolding admit
admits onu alloc d = step (alloc_in 3 alloc) _ (λ i. step (onu_in 2 onu) _ (λ u. step (descriptor_in 4 d) _ (λ r. tt)))

changes : (alloc : ℕ) (d : Descriptor) → Reads IsOtherEvent (change alloc d)
unfolding change
changes alloc d = step (alloc_in 2 alloc) _ (λ i. step (descriptor_in 3 d) _ (λ r. tt))

admit_words : (ws : List (List ℕ)) → Reads IsOtherEvent (admit_of ws)
unfolding admit_of
admit_words [] = tt
admit_words (onu ∷ []) = tt
admit_words (onu ∷ alloc ∷ ws) =
    step (descriptor_words ws) _ (λ w. step (number_field 2 field.Onu onu) _ (λ u. step (number_field 3 field.Alloc alloc) _ (λ i. step (rate_fields 4 w) _ (λ d. admits u i d))))

change_words : (ws : List (List ℕ)) → Reads IsOtherEvent (change_of ws)
unfolding change_of
change_words [] = tt
change_words (alloc ∷ ws) = step (descriptor_words ws) _ (λ w. step (number_field 2 field.Alloc alloc) _ (λ i. step (rate_fields 3 w) _ (λ d. changes i d)))

remove_words : (ws : List (List ℕ)) → Reads IsOtherEvent (remove_of ws)
unfolding remove_of
remove_words ws = step (alloc_of ws) _ (λ i. tt)

fail_words : (ws : List (List ℕ)) → Reads IsOtherEvent (fail_of ws)
unfolding fail_of
fail_words [] = tt
fail_words (cause ∷ []) = step (number_field 2 field.Cause cause) _ (λ n. chosen IsOtherEvent (nat_lt n 1 || nat_lt 9 n) (Err (at_word BadField 2 field.Cause)) (Ok (event.Fail n)) tt tt)
fail_words (cause ∷ w ∷ ws) = tt

abbrev OtherEvent : ℕ → Option Event → Type 0
OtherEvent port event = IfSome event IsOtherEvent

other_command : (port : ℕ) (c : Command) (ws : List (List ℕ)) → c ≢ Map → c ≢ Report → IsOtherReading (by_command port c ws)
other_command port Admit ws map report = asks_taken OtherEvent port (admit_of ws) (admit_words ws)
other_command port Change ws map report = asks_taken OtherEvent port (change_of ws) (change_words ws)
other_command port Remove ws map report = asks_taken OtherEvent port (remove_of ws) (remove_words ws)
other_command port Report ws map report = absurd (report refl)
other_command port Map ws map report = absurd (map refl)
other_command port Fail ws map report = asks_taken OtherEvent port (fail_of ws) (fail_words ws)
other_command port Restore ws map report = asks_taken OtherEvent port _ (alone IsOtherEvent event.Restore ws tt)
other_command port Cert ws map report = asks_shown OtherEvent (AsksCert port) ws tt
other_command port Show ws map report = asks_shown OtherEvent (AsksState port) ws tt
other_command port Lists ws map report = asks_shown OtherEvent (AsksRows port) ws tt
other_command port Why ws map report = asks_explained OtherEvent port (alloc_of ws) tt
other_command port Sure ws map report = asks_promised OtherEvent port (alloc_of ws) tt
other_command port Help ws map report = asks_shown OtherEvent (AsksHelp port) ws tt
other_command port Stop ws map report = asks_shown OtherEvent (AsksStop port) ws tt

pub other_request : (port : ℕ) (name : List ℕ) (ws : List (List ℕ)) (c : Command) → command_of name ≡ Some c → c ≢ Map → c ≢ Report → IsOtherReading (request_of port (name ∷ ws))
unfolding request_of
other_request port name ws c is map report = subst (λ r. IsOtherReading (by_name port r ws)) (sym is) (other_command port c ws map report)
