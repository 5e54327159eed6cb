-- The numbers of an event that a line requests are in range.
use Rattle.std.proofs.Common.{◌≡◌, ℕ, ◌+◌, ◌<◌, ◌≤◌, ◌^◌, Bool, true, false, List, [], ◌∷◌, length, refl, arith}
use Rattle.std.specs.Prelude.{◌==◌, ◌||◌, ◌&&◌, nat_lt, codes, if◌then◌else◌, Option, Some, None, IfSome, Result, Ok, Err}
use Rattle.std.specs.Str.{bytes_eq}
use Rattle.std.specs.Str.Parse.{digits_value}
use Rattle.std.specs.List.{AllByRecursion}
use Rattle.std.proofs.lemmas.Bool.{or_parts, and_parts, ltb-true, ltb-false, eqb-false}
use Rattle.std.proofs.lemmas.List.Elements.{All-from_recursion}
use Rattle.pon_units.specs.declared.limits.TheConstants.{LINE_RATE, MAX_ALLOC_ID, MAX_OCCUPANCY, MAX_ONU_ID, MAX_SERIES, MIN_ALLOC_ID}
use Rattle.pon_lists.specs.ResultSteps.{◌>>=◌}
use Rattle.pon_text.specs.Lines.{is_numeral}
use Rattle.pon_descr.specs.Checks.{when}
use Rattle.pon_descr.specs.Descriptor.{Descriptor, IsLawful, SuitsClass, class_refusal, descriptor_refusal, promised}
use Rattle.pon_descr.specs.declared.class.Class.{Class}
use Rattle.pon_descr.specs.declared.class.Class.TheVariants.{Plain, NonAssured, BestEffort}
use Rattle.pon_descr.specs.declared.refusal.Refusal.{Refusal}
use Rattle.pon_descr.specs.declared.refusal.Refusal.TheVariants.{RateRange, MaxBelowGuaranteed, NeedsGuarantee, NoSurplusRoom}
use Rattle.pon_descr.proofs.Checks.{none_refuses, when_none}
use Rattle.pon_admit.specs.declared.event.Event.{Event}
use Rattle.pon_admit.specs.declared.event.Event.TheVariants as event
use Rattle.pon_state.specs.Events.{IsEvent, IsManaged}
use Rattle.pon_line.specs.Fields.{alloc_in, descriptor_in, descriptor_words, number_field, onu_in, or_bad_field, rate_fields, rate_in, unless}
use Rattle.pon_line.specs.Commands.{admit, admit_of, alloc_of, change, change_of, fail_of, is_miscounted, occupancy_field, occupancy_fields, remove_of, report, report_of}
use Rattle.pon_line.specs.Reading.{Asked, by_command, read_line}
use Rattle.pon_line.specs.declared.fault.LineRefusal.{LineRefusal}
use Rattle.pon_line.specs.declared.field.Field.{Field}
use Rattle.pon_line.specs.declared.field.Field.TheVariants as field
use Rattle.pon_line.specs.declared.reading.Reading.{Reading}
use Rattle.pon_line.specs.declared.reading.Reading.TheVariants.{AsksCert, AsksState, AsksRows, AsksHelp, AsksStop}
use Rattle.pon_line.specs.declared.table.Command.{Command}
use Rattle.pon_line.specs.declared.table.Command.TheVariants.{Admit, Change, Remove, Report, Map, Fail, Restore, Cert, Show, List as Lists, Why, Sure, Help, Stop}
use Rattle.pon_line.proofs.AskedEvents.{Reads, alone, asks_explained, asks_promised, asks_shown, asks_taken, chosen, read_line-asks}

next_step : {A B : Type 0} (Q : A → Type 0) (P : B → Type 0) (r : Result A LineRefusal) (f : A → Result B LineRefusal) → Reads Q r → ((x : A) → Q x → Reads P (f x)) → Reads P (r >>= f)
next_step Q P (Ok x) f q h = h x q
next_step Q P (Err refusal) f q h = tt

-- the same where nothing is known of the value
any_step : {A B : Type 0} (P : B → Type 0) (r : Result A LineRefusal) (f : A → Result B LineRefusal) → ((x : A) → Reads P (f x)) → Reads P (r >>= f)
any_step P (Ok x) f h = h x
any_step P (Err refusal) f h = tt

guarded : {A : Type 0} (P : A → Type 0) (b : Bool) (refusal : LineRefusal) (r : Result A LineRefusal) → (b ≡ false → Reads P r) → Reads P (if b then Err refusal else r)
guarded P true refusal r h = tt
guarded P false refusal r h = h refl

unrefused : {A : Type 0} (P : A → Type 0) (r : Option Refusal) (x : A) → (r ≡ None → P x) → Reads P (unless r x)
unrefused P None x h = h refl
unrefused P (Some refusal) x h = tt

-- Numbers.

number_small : (at : ℕ) (f : Field) (w : List ℕ) → Reads (λ n. n < 2 ^ 64) (number_field at f w)
unfolding number_field
number_small at f w = small (is_numeral w && nat_lt (digits_value 10 w) (2 ^ 64)) (λ e. ltb-true (digits_value 10 w) (2 ^ 64) (and_parts (is_numeral w) (nat_lt (digits_value 10 w) (2 ^ 64)) e).1)
  where
    small : (b : Bool) → (b ≡ true → digits_value 10 w < 2 ^ 64) → Reads (λ n. n < 2 ^ 64) (or_bad_field at f (if b then Some (digits_value 10 w) else None))
    small true h = h refl
    small false h = tt

managed : (at i : ℕ) → Reads IsManaged (alloc_in at i)
unfolding alloc_in
managed at i = guarded IsManaged (nat_lt i MIN_ALLOC_ID || nat_lt MAX_ALLOC_ID i) _ (Ok i) (λ e.
    let out : ((nat_lt i MIN_ALLOC_ID) ≡ false) × ((nat_lt MAX_ALLOC_ID i) ≡ false) = or_parts (nat_lt i MIN_ALLOC_ID) (nat_lt MAX_ALLOC_ID i) e in
    (ltb-false i MIN_ALLOC_ID out.0, ltb-false MAX_ALLOC_ID i out.1))

onu_small : (at u : ℕ) → Reads (λ u. u ≤ MAX_ONU_ID) (onu_in at u)
unfolding onu_in
onu_small at u = guarded (λ u. u ≤ MAX_ONU_ID) (nat_lt MAX_ONU_ID u) _ (Ok u) (λ e. ltb-false MAX_ONU_ID u e)

suits : (c : Class) (promise most : ℕ) → promise ≤ most → class_refusal c promise most ≡ None → SuitsClass c promise most
suits Plain promise most le h = tt
suits NonAssured promise most le h =
    let none = none_refuses (when (promise == 0) NeedsGuarantee ∷ when (promise == most) NoSurplusRoom ∷ []) h in
    let some = eqb-false promise 0 (when_none (promise == 0) NeedsGuarantee none.0) in
    let room = eqb-false promise most (when_none (promise == most) NoSurplusRoom none.1.0) in
    (omega (arith, some), omega (arith, le, room))
suits BestEffort promise most le h =
    let room = eqb-false promise most (when_none (promise == most) NoSurplusRoom h) in
    omega (arith, le, room)

lawful : (d : Descriptor) → descriptor_refusal d ≡ None → IsLawful d
lawful d h =
    let none = none_refuses (when (nat_lt LINE_RATE d.fixed || (nat_lt LINE_RATE d.assured || nat_lt LINE_RATE d.max)) RateRange ∷ when (nat_lt d.max (promised d)) MaxBelowGuaranteed ∷ class_refusal d.class (promised d) d.max ∷ []) h in
    let rates = or_parts (nat_lt LINE_RATE d.fixed) (nat_lt LINE_RATE d.assured || nat_lt LINE_RATE d.max) (when_none _ RateRange none.0) in
    let enough : promised d ≤ d.max = ltb-false d.max (promised d) (when_none _ MaxBelowGuaranteed none.1.0) in
    record {
      in_range = ltb-false LINE_RATE d.max (or_parts (nat_lt LINE_RATE d.assured) (nat_lt LINE_RATE d.max) rates.1).1;
      enough = enough;
      class = suits d.class (promised d) d.max enough none.1.1.0;
    }

descriptor_lawful : (at : ℕ) (d : Descriptor) → Reads IsLawful (descriptor_in at d)
unfolding descriptor_in
descriptor_lawful at d =
    any_step IsLawful (rate_in at field.Fixed d.fixed) _ (λ fixed.
    any_step IsLawful (rate_in (at + 1) field.Assured d.assured) _ (λ assured.
    any_step IsLawful (rate_in (at + 2) field.Max d.max) _ (λ most. unrefused IsLawful (descriptor_refusal d) d (lawful d))))

-- Events of numbers.

admit_reads : (onu alloc : ℕ) (d : Descriptor) → Reads IsEvent (admit onu alloc d)
unfolding admit
admit_reads onu alloc d =
    next_step IsManaged IsEvent (alloc_in 3 alloc) _ (managed 3 alloc) (λ i m.
    next_step (λ u. u ≤ MAX_ONU_ID) IsEvent (onu_in 2 onu) _ (onu_small 2 onu) (λ u small.
    next_step IsLawful IsEvent (descriptor_in 4 d) _ (descriptor_lawful 4 d) (λ r l. record { onu = small; managed = m.0; alloc_id = m.1; descriptor = l })))

change_reads : (alloc : ℕ) (d : Descriptor) → Reads IsEvent (change alloc d)
unfolding change
change_reads alloc d =
    next_step IsManaged IsEvent (alloc_in 2 alloc) _ (managed 2 alloc) (λ i m.
    next_step IsLawful IsEvent (descriptor_in 3 d) _ (descriptor_lawful 3 d) (λ r l. (m, l)))

-- The words of commands.

admit_words : (ws : List (List ℕ)) → Reads IsEvent (admit_of ws)
unfolding admit_of
admit_words [] = tt
admit_words (onu ∷ []) = tt
admit_words (onu ∷ alloc ∷ ws) =
    any_step IsEvent (descriptor_words ws) _ (λ w.
    any_step IsEvent (number_field 2 field.Onu onu) _ (λ u.
    any_step IsEvent (number_field 3 field.Alloc alloc) _ (λ i.
    any_step IsEvent (rate_fields 4 w) _ (λ d. admit_reads u i d))))

change_words : (ws : List (List ℕ)) → Reads IsEvent (change_of ws)
unfolding change_of
change_words [] = tt
change_words (alloc ∷ ws) =
    any_step IsEvent (descriptor_words ws) _ (λ w.
    any_step IsEvent (number_field 2 field.Alloc alloc) _ (λ i.
    any_step IsEvent (rate_fields 3 w) _ (λ d. change_reads i d)))

alloc_managed : (ws : List (List ℕ)) → Reads IsManaged (alloc_of ws)
unfolding alloc_of
alloc_managed [] = tt
alloc_managed (alloc ∷ []) = any_step IsManaged (number_field 2 field.Alloc alloc) _ (λ i. managed 2 i)
alloc_managed (alloc ∷ w ∷ ws) = tt

remove_words : (ws : List (List ℕ)) → Reads IsEvent (remove_of ws)
unfolding remove_of
remove_words ws = next_step IsManaged IsEvent (alloc_of ws) _ (alloc_managed ws) (λ i m. m)

abbrev IsOccupancy : Option ℕ → Type 0
IsOccupancy o = IfSome o (λ words. words < 2 ^ 24)

occupancy_small : (at : ℕ) (w : List ℕ) → Reads IsOccupancy (occupancy_field at w)
unfolding occupancy_field
occupancy_small at w =
    chosen IsOccupancy (bytes_eq w (codes "x")) (Ok None) _ tt (
    any_step IsOccupancy (number_field at field.Occupancy w) _ (λ n.
    guarded IsOccupancy (nat_lt MAX_OCCUPANCY n) _ (Ok (Some n)) (λ e. let le : n ≤ MAX_OCCUPANCY = ltb-false MAX_OCCUPANCY n e in omega (arith, le))))

-- one occupancy for each word
abbrev OneEach : List (List ℕ) → List (Option ℕ) → Type 0
OneEach ws ns = (length ns ≡ length ws) × AllByRecursion IsOccupancy ns

occupancies_small : (at : ℕ) (ws : List (List ℕ)) → Reads (OneEach ws) (occupancy_fields at ws)
unfolding occupancy_fields
occupancies_small at [] = (refl, tt)
occupancies_small at (w ∷ ws) =
    next_step IsOccupancy (OneEach (w ∷ ws)) (occupancy_field at w) _ (occupancy_small at w) (λ n small.
    next_step (OneEach ws) (OneEach (w ∷ ws)) (occupancy_fields (at + 1) ws) _ (occupancies_small (at + 1) ws) (λ ns each. (omega (arith, each.0), (small, each.1))))

report_words : (ws : List (List ℕ)) → Reads IsEvent (report_of ws)
unfolding report_of report
report_words [] = tt
report_words (frame ∷ []) = tt
report_words (frame ∷ onu ∷ ws) =
    guarded IsEvent (is_miscounted ws) _ _ (λ e.
    let few : length ws ≤ MAX_SERIES = ltb-false MAX_SERIES (length ws) (or_parts (length ws == 0) (nat_lt MAX_SERIES (length ws)) e).1 in
    next_step (λ n. n < 2 ^ 64) IsEvent (number_field 2 field.Frame frame) _ (number_small 2 field.Frame frame) (λ f small.
    any_step IsEvent (number_field 3 field.Onu onu) _ (λ u.
    next_step (OneEach ws) IsEvent (occupancy_fields 4 ws) _ (occupancies_small 4 ws) (λ ns each.
    next_step (λ u. u ≤ MAX_ONU_ID) IsEvent (onu_in 3 u) _ (onu_small 3 u) (λ u in_range. record {
      frame_range = small;
      onu_range = in_range;
      occupancies = record { few = omega (arith, each.0, few); range = All-from_recursion IsOccupancy ns each.1 };
    })))))

fail_words : (ws : List (List ℕ)) → Reads IsEvent (fail_of ws)
unfolding fail_of
fail_words [] = tt
fail_words (cause ∷ []) =
    any_step IsEvent (number_field 2 field.Cause cause) _ (λ n.
    guarded IsEvent (nat_lt n 1 || nat_lt 9 n) _ (Ok (event.Fail n)) (λ e.
    let out : (nat_lt n 1 ≡ false) × (nat_lt 9 n ≡ false) = or_parts (nat_lt n 1) (nat_lt 9 n) e in
    (ltb-false n 1 out.0, ltb-false 9 n out.1)))
fail_words (cause ∷ w ∷ ws) = tt

-- Lines.

-- the event, if there is one, is in range
abbrev pub InRange : ℕ → Option Event → Type 0
InRange port event = IfSome event IsEvent

-- a requested event is in range
abbrev pub AsksInRange : Reading → Type 0
AsksInRange r = Asked InRange r

command_in_range : (port : ℕ) (c : Command) (ws : List (List ℕ)) → AsksInRange (by_command port c ws)
command_in_range port Admit ws = asks_taken InRange port (admit_of ws) (admit_words ws)
command_in_range port Change ws = asks_taken InRange port (change_of ws) (change_words ws)
command_in_range port Remove ws = asks_taken InRange port (remove_of ws) (remove_words ws)
command_in_range port Report ws = asks_taken InRange port (report_of ws) (report_words ws)
command_in_range port Map ws = asks_taken InRange port _ (alone IsEvent event.MakeMap ws tt)
command_in_range port Fail ws = asks_taken InRange port (fail_of ws) (fail_words ws)
command_in_range port Restore ws = asks_taken InRange port _ (alone IsEvent event.Restore ws tt)
command_in_range port Cert ws = asks_shown InRange (AsksCert port) ws tt
command_in_range port Show ws = asks_shown InRange (AsksState port) ws tt
command_in_range port Lists ws = asks_shown InRange (AsksRows port) ws tt
command_in_range port Why ws = asks_explained InRange port (alloc_of ws) tt
command_in_range port Sure ws = asks_promised InRange port (alloc_of ws) tt
command_in_range port Help ws = asks_shown InRange (AsksHelp port) ws tt
command_in_range port Stop ws = asks_shown InRange (AsksStop port) ws tt

pub read_line-in_range : (ports : ℕ) (line : List ℕ) → AsksInRange (read_line ports line)
read_line-in_range ports line = read_line-asks InRange ports (λ port c ws within. command_in_range port c ws) line
