-- Each input has an output text.
use Rattle.std.proofs.Common.{◌≡◌, ℕ, ◌<◌, List, [], ◌∷◌, ◌++◌, length, refl, ap, sym, ◌∙◌, subst, append_assoc, inl, inr, arith}
use Rattle.std.proofs.lemmas.Option.{slice_get-get_or}
use Rattle.std.specs.Prelude.{Option, Some, None, slice_get, slice_set}
use Rattle.pon_history.specs.Chapters.{Chapter, IsLawfulChapter, present_state}
use Rattle.pon_history.specs.Last.{last_map}
use Rattle.pon_history.specs.Taking.{Takes, refusal_of}
use Rattle.pon_port.proofs.EachReply.{each_taken}
use Rattle.pon_admit.specs.declared.event.Event.{Event}
use Rattle.pon_state.specs.Events.{IsEvent}
use Rattle.pon_state.specs.declared.reply.Reply.{Reply}
use Rattle.pon_descr.specs.declared.refusal.Refusal.{Refusal}
use Rattle.pon_device.specs.Streams.{IsBeginning}
use Rattle.pon_text.specs.Lines.{lines_of}
use Rattle.pon_line.specs.Reading.{AsksWithin, read_line}
use Rattle.pon_line.specs.declared.fault.LineFault.TheVariants.{Port}
use Rattle.pon_line.specs.declared.reading.Reading.{Reading}
use Rattle.pon_line.specs.declared.reading.Reading.TheVariants.{Nothing, Refused, Asks, AsksCert, AsksState, AsksRows, AsksHelp, AsksStop, AsksWhy, AsksSure}
use Rattle.pon_line.proofs.Asking.{read_line-within}
use Rattle.pon_text.specs.Giving.{GivesLines}
use Rattle.pon_text.specs.Planning.{BeginsNext}
use Rattle.pon_manage.specs.Planning.{BeginsOutput}
use Rattle.pon_why.specs.Lasts.{why_of}
use Rattle.pon_manage.specs.Sures.{sure_in, sure_line}
use Rattle.pon_manage.specs.Whys.{why_line}
use Rattle.pon_manage.specs.Help.{help_text}
use Rattle.pon_manage.specs.Rows.{list_text}
use Rattle.pon_manage.specs.Text.{refusal_line, reply_line, cert_line, state_line, Answers, AsksPort, Posts, TellsCert, TellsRows, TellsState, TellsSure, TellsWhy, Gives, IsOutput}
use Rattle.pon_manage.proofs.OneOutput.{AreLawful, lawful_at, lawful_answer}
use Rattle.pon_manage.proofs.ReadEvents.{AsksInRange, read_line-in_range}

each_post : (old : List Chapter) (port : ℕ) (c : Chapter) (v : Event) (r : Option Refusal) → refusal_of c v ≡ r → IsLawfulChapter c → IsEvent v → (text : List ℕ) × (new : List Chapter) × Posts old port c v r text new
each_post old port c v (Some refusal) e l range = (refusal_line (Port refusal), old, (refl, refl))
each_post old port c v None e l range =
    let taken : (reply : Reply) × (next : Chapter) × Takes c v reply next = each_taken c v l range e in
    (reply_line (length c.entries) taken.0, slice_set old port taken.1, (taken.0, taken.1, taken.2, refl, refl))

-- an existing port has a chapter
there : (old : List Chapter) (port : ℕ) → port < length old → slice_get old port ≡ None → ⊥
there [] port lt e = omega (arith, lt)
there (c ∷ cs) port lt e = (let t = sym (slice_get-get_or (c ∷ cs) port c lt) ∙ e in cc)

each_ask : (old : List Chapter) (port : ℕ) (c : Option Chapter) (v : Event) → AreLawful old → port < length old → slice_get old port ≡ c → IsEvent v → (text : List ℕ) × (new : List Chapter) × AsksPort old port c v text new
each_ask old port None v l lt at range = absurd (there old port lt at)
each_ask old port (Some c) v l lt at range = each_post old port c v (refusal_of c v) refl (lawful_at old port c l at) range

each_cert : (old : List Chapter) (port : ℕ) (c : Option Chapter) → port < length old → slice_get old port ≡ c → (text : List ℕ) × TellsCert c text
each_cert old port None lt at = absurd (there old port lt at)
each_cert old port (Some c) lt at = (cert_line (last_map c), refl)

each_state : (old : List Chapter) (port : ℕ) (c : Option Chapter) → port < length old → slice_get old port ≡ c → (text : List ℕ) × TellsState c text
each_state old port None lt at = absurd (there old port lt at)
each_state old port (Some c) lt at = (state_line (present_state c), refl)

each_list : (old : List Chapter) (port : ℕ) (c : Option Chapter) → port < length old → slice_get old port ≡ c → (text : List ℕ) × TellsRows c text
each_list old port None lt at = absurd (there old port lt at)
each_list old port (Some c) lt at = (list_text (present_state c), refl)

each_why : (old : List Chapter) (port alloc : ℕ) (c : Option Chapter) → port < length old → slice_get old port ≡ c → (text : List ℕ) × TellsWhy c alloc text
each_why old port alloc None lt at = absurd (there old port lt at)
each_why old port alloc (Some c) lt at = (why_line (why_of c.opening c.entries alloc), refl)

each_sure : (old : List Chapter) (port alloc : ℕ) (c : Option Chapter) → port < length old → slice_get old port ≡ c → (text : List ℕ) × TellsSure c alloc text
each_sure old port alloc None lt at = absurd (there old port lt at)
each_sure old port alloc (Some c) lt at = (sure_line alloc (sure_in (present_state c) alloc), refl)

each_answer : (old : List Chapter) (r : Reading) → AreLawful old → AsksWithin (length old) r → AsksInRange r → (text : List ℕ) × (new : List Chapter) × Answers old r text new
each_answer old Nothing l within range = ([], old, (refl, refl))
each_answer old (Refused refusal) l within range = (refusal_line refusal.fault, old, (refl, refl))
each_answer old (Asks port event) l within range = each_ask old port (slice_get old port) event l within refl range
each_answer old (AsksCert port) l within range =
    let told : (text : List ℕ) × TellsCert (slice_get old port) text = each_cert old port (slice_get old port) within refl in
    (told.0, old, (told.1, refl))
each_answer old (AsksState port) l within range =
    let told : (text : List ℕ) × TellsState (slice_get old port) text = each_state old port (slice_get old port) within refl in
    (told.0, old, (told.1, refl))
each_answer old (AsksRows port) l within range =
    let told : (text : List ℕ) × TellsRows (slice_get old port) text = each_list old port (slice_get old port) within refl in
    (told.0, old, (told.1, refl))
each_answer old (AsksHelp port) l within range = (help_text, old, (refl, refl))
each_answer old (AsksStop port) l within range = (_, old, (refl, refl))
each_answer old (AsksWhy port alloc) l within range =
    let told : (text : List ℕ) × TellsWhy (slice_get old port) alloc text = each_why old port alloc (slice_get old port) within refl in
    (told.0, old, (told.1, refl))
each_answer old (AsksSure port alloc) l within range =
    let told : (text : List ℕ) × TellsSure (slice_get old port) alloc text = each_sure old port alloc (slice_get old port) within refl in
    (told.0, old, (told.1, refl))

each_line : (old : List Chapter) (line : List ℕ) → AreLawful old → (text : List ℕ) × (new : List Chapter) × Gives old line text new
each_line old line l = each_answer old (read_line (length old) line) l (read_line-within (length old) line) (read_line-in_range (length old) line)

each_lines : (old : List Chapter) (ls : List (List ℕ)) → AreLawful old → (text : List ℕ) × (new : List Chapter) × GivesLines Gives old ls text new
each_lines old [] l = ([], old, (refl, refl))
each_lines old (x ∷ ls) l =
    let first : (text : List ℕ) × (new : List Chapter) × Gives old x text new = each_line old x l in
    let rest : (text : List ℕ) × (new : List Chapter) × GivesLines Gives first.1 ls text new = each_lines first.1 ls (lawful_answer old (read_line (length old) x) first.0 first.1 l first.2) in
    (first.0 ++ rest.0, rest.1, (first.0, rest.0, first.1, first.2, rest.2, refl))

pub each_output : (ports : List Chapter) (input : List ℕ) → AreLawful ports → (text : List ℕ) × IsOutput ports input text
each_output ports input l =
    let gives : (text : List ℕ) × (new : List Chapter) × GivesLines Gives ports (lines_of input) text new = each_lines ports (lines_of input) l in
    (gives.0, (gives.1, gives.2))

-- A text that begins an output is a prefix of the output text.

lawful_lines : (old : List Chapter) (ls : List (List ℕ)) (text : List ℕ) (new : List Chapter) → AreLawful old → GivesLines Gives old ls text new → AreLawful new
lawful_lines old [] text new l p = subst AreLawful (sym p.1) l
lawful_lines old (x ∷ ls) text new l p = lawful_lines p.2 ls p.1 new (lawful_answer old (read_line (length old) x) p.0 p.2 l p.3) p.4

gives_append : (old mid new : List Chapter) (ls ms : List (List ℕ)) (text more : List ℕ) → GivesLines Gives old ls text mid → GivesLines Gives mid ms more new → GivesLines Gives old (ls ++ ms) (text ++ more) new
gives_append old mid new [] ms text more p q =
    subst (λ t. GivesLines Gives old ms (t ++ more) new) (sym p.0) (subst (λ m. GivesLines Gives m ms more new) p.1 q)
gives_append old mid new (x ∷ ls) ms text more p q =
    (p.0, p.1 ++ more, p.2, p.3, gives_append p.2 mid new ls ms p.1 more p.4 q, ap (λ t. t ++ more) p.5 ∙ append_assoc p.0 p.1 more)

-- the remaining lines have a text with this prefix
begins_lines : (old : List Chapter) (ls : List (List ℕ)) (part : List ℕ) → AreLawful old → BeginsNext Gives old ls part → (text : List ℕ) × (new : List Chapter) × GivesLines Gives old ls text new × IsBeginning part text
begins_lines old [] part l e = ([], old, (refl, refl), ([], ap (λ t. t ++ []) e))
begins_lines old (x ∷ ls) part l (inl e) =
    let gives : (text : List ℕ) × (new : List Chapter) × GivesLines Gives old (x ∷ ls) text new = each_lines old (x ∷ ls) l in
    (gives.0, gives.1, gives.2, (gives.0, ap (λ t. t ++ gives.0) e))
begins_lines old (x ∷ ls) part l (inr b) =
    let rest : (text : List ℕ) × (new : List Chapter) × GivesLines Gives b.1 ls text new = each_lines b.1 ls (lawful_answer old (read_line (length old) x) b.0 b.1 l b.2) in
    (b.0 ++ rest.0, rest.1, (b.0, rest.0, b.1, b.2, rest.2, refl), (b.3.0 ++ rest.0, sym (append_assoc part b.3.0 rest.0) ∙ ap (λ t. t ++ rest.0) b.3.1))

pub begun_output : (ports : List Chapter) (input written : List ℕ) → AreLawful ports → BeginsOutput ports input written → (text : List ℕ) × IsOutput ports input text × IsBeginning written text
begun_output ports input written l b =
    let left : (text : List ℕ) × (new : List Chapter) × GivesLines Gives b.after b.more text new × IsBeginning b.part text = begins_lines b.after b.more b.part (lawful_lines ports b.answered b.text b.after l b.gave) b.begins in
    let gives : GivesLines Gives ports (b.answered ++ b.more) (b.text ++ left.0) left.1 = gives_append ports b.after left.1 b.answered b.more b.text left.0 b.gave left.2 in (
      b.text ++ left.0,
      (left.1, subst (λ ls. GivesLines Gives ports ls (b.text ++ left.0) left.1) (sym b.lines) gives),
      (left.3.0, ap (λ w. w ++ left.3.0) b.is ∙ append_assoc b.text b.part left.3.0 ∙ ap (λ t. b.text ++ t) left.3.1),
    )
