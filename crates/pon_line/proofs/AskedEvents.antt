-- A property of what commands request holds for what a line requests, which is only of an existing port.
use Rattle.std.proofs.Common.{◌≡◌, ℕ, ◌<◌, Bool, true, false, List, [], ◌∷◌, length, refl}
use Rattle.std.specs.Prelude.{nat_lt, not, if◌then◌else◌, Option, Some, None, Result, Ok, Err}
use Rattle.std.specs.List.{list_all}
use Rattle.std.proofs.lemmas.Bool.{ltb-true}
use Rattle.pon_admit.specs.declared.event.Event.{Event}
use Rattle.pon_text.specs.Lines.{words_of, without_return}
use Rattle.pon_lists.specs.ResultSteps.{◌>>=◌}
use Rattle.pon_line.specs.Commands.{no_arguments}
use Rattle.pon_line.specs.Fields.{number_field}
use Rattle.pon_line.specs.Places.{at_word, of_line}
use Rattle.pon_line.specs.Reading.{Asked, asks_sure, asks_why, by_command, by_name, by_port, is_comment, is_text, port_of, read_line, read_words, request_of, shows, takes}
use Rattle.pon_line.specs.Table.{command_of}
use Rattle.pon_line.specs.declared.fault.LineFault.TheVariants.{LineLong, NoSuchPort, NotText}
use Rattle.pon_line.specs.declared.fault.LineRefusal.{LineRefusal}
use Rattle.pon_line.specs.declared.field.Field.TheVariants as field
use Rattle.pon_line.specs.declared.reading.Reading.{Reading}
use Rattle.pon_line.specs.declared.reading.Reading.TheVariants.{Nothing, Refused}
use Rattle.pon_line.specs.declared.table.Command.{Command}

-- P holds for the value that was read, if there is one
abbrev pub Reads : {A : Type 0} → (A → Type 0) → Result A LineRefusal → Type 0
Reads P (Ok x) = P x
Reads P (Err refusal) = Unit {0}

pub chosen : {A : Type 0} (P : A → Type 0) (b : Bool) (r s : Result A LineRefusal) → Reads P r → Reads P s → Reads P (if b then r else s)
chosen P true r s p q = p
chosen P false r s p q = q

pub alone : (P : Event → Type 0) (event : Event) (ws : List (List ℕ)) → P event → Reads P (no_arguments event ws)
alone P event [] p = p
alone P event (w ∷ ws) p = tt

-- a port that a word names exists
IsThere : ℕ → Result ℕ LineRefusal → Type 0
IsThere ports r = Reads (λ port. port < ports) r

port_there : (ports : ℕ) (w : List ℕ) → IsThere ports (port_of ports w)
unfolding IsThere port_of
port_there ports w = by_number (number_field 0 field.Port w)
  where
    by_number : (r : Result ℕ LineRefusal) → IsThere ports (r >>= λ n. if nat_lt n ports then Ok n else Err (at_word NoSuchPort 0 field.Port))
    by_number (Err refusal) = tt
    by_number (Ok n) = (elim (nat_lt n ports) as (λ b. nat_lt n ports ≡ b → IsThere ports (if b then Ok n else Err (at_word NoSuchPort 0 field.Port))) [
      | true ↦ λ t. ltb-true n ports t
      | false ↦ λ t. tt
    ]) refl

module _ (P : ℕ → Option Event → Type 0) where
  pub asks_taken : (port : ℕ) (r : Result Event LineRefusal) → Reads (λ event. P port (Some event)) r → Asked P (takes port r)
  asks_taken port (Ok event) h = h
  asks_taken port (Err refusal) h = tt

  pub asks_shown : (asked : Reading) (ws : List (List ℕ)) → Asked P asked → Asked P (shows asked ws)
  asks_shown asked [] h = h
  asks_shown asked (w ∷ ws) h = tt

  pub asks_explained : (port : ℕ) (r : Result ℕ LineRefusal) → P port None → Asked P (asks_why port r)
  asks_explained port (Ok alloc) h = h
  asks_explained port (Err refusal) h = tt

  pub asks_promised : (port : ℕ) (r : Result ℕ LineRefusal) → P port None → Asked P (asks_sure port r)
  asks_promised port (Ok alloc) h = h
  asks_promised port (Err refusal) h = tt

  either : (b : Bool) (r s : Reading) → Asked P r → Asked P s → Asked P (if b then r else s)
  either true r s p q = p
  either false r s p q = q

  module _ (ports : ℕ) (commands : (port : ℕ) (c : Command) (ws : List (List ℕ)) → port < ports → Asked P (by_command port c ws)) where
    name_asks : (port : ℕ) (c : Option Command) (ws : List (List ℕ)) → port < ports → Asked P (by_name port c ws)
    name_asks port None ws h = tt
    name_asks port (Some c) ws h = commands port c ws h

    request_asks : (port : ℕ) (ws : List (List ℕ)) → port < ports → Asked P (request_of port ws)
    unfolding request_of
    request_asks port [] h = tt
    request_asks port (name ∷ ws) h = name_asks port (command_of name) ws h

    port_asks : (r : Result ℕ LineRefusal) (ws : List (List ℕ)) → IsThere ports r → Asked P (by_port r ws)
    unfolding IsThere
    port_asks (Err refusal) ws h = tt
    port_asks (Ok port) ws h = request_asks port ws h

    words_ask : (ws : List (List ℕ)) → Asked P (read_words ports ws)
    words_ask [] = tt
    words_ask (w ∷ ws) = port_asks (port_of ports w) ws (port_there ports w)

    pub read_line-asks : (line : List ℕ) → Asked P (read_line ports line)
    unfolding read_line
    read_line-asks line =
        either (nat_lt 4096 (length line)) (Refused (of_line LineLong)) _ tt (
        either (is_comment (words_of (without_return line))) Nothing _ tt (
        either (not (list_all is_text (without_return line))) (Refused (of_line NotText)) (read_words ports (words_of (without_return line))) tt
        (words_ask (words_of (without_return line)))))
