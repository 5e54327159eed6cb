-- A command after each step of its building.
use Rattle.std.proofs.Common.{◌≡◌, ap, ◌∙◌, subst, sym, true, false, Result, Ok, Err, IfOk, List, [], ◌∷◌, ◌++◌}
use Rattle.std.proofs.lemmas.List.{append_assoc, append-nil}
use Rattle.std.specs.Prelude.{Bool, ◌||◌, map, IsOkAnd}
use Rattle.clap.specs.Built.{AddsArg, AddsInTurn, AddsSubcommand}
use Rattle.clap.specs.Walk.{Rule, rule_of}
use Rattle.clap.specs.Simple.{App, Shape, app_of, on_top, shape_of, with_rule, with_subcommand}
use Rattle.clap.specs.declared.builder.arg.Arg.{Arg}
use Rattle.clap.specs.declared.builder.command.Command.{Command}
use Rattle.pon_job.specs.Jobs.{AreLocal, IsDefined, leaf}

neither : (a b : Bool) → a ≡ false → b ≡ false → (a || b) ≡ false
neither false b h k = k
neither true b h k = absurd (cc)

-- a definition with these rules added
abbrev pub with_rules : App → List Rule → App
with_rules app rules = on_top (λ s. record s { rules = s.rules ++ rules }) app

one_more : (app : App) (r : Rule) (rules : List Rule) → with_rules (with_rule app r) rules ≡ with_rules app (r ∷ rules)
one_more app r rules = ap (λ all. on_top (λ s. record s { rules = all }) app) (append_assoc app.top.rules (r ∷ []) rules)

with_arg : (app : App) (old new : Command) (a : Arg) → IsDefined app old → a.global ≡ false → AddsArg old a new → IsDefined (with_rule app (rule_of a)) new
with_arg app old new a h local adds = record {
  definition = adds.shape local ∙ ap (λ k. with_rule k (rule_of a)) h.definition;
  local = adds.globals ∙ neither _ _ h.local local;
}

with_all : (app : App) (args : List Arg) (old new : Command) → IsDefined app old → AreLocal args → AddsInTurn AddsArg old args new → IsDefined (with_rules app (map rule_of args)) new
with_all app [] old new h local same =
    let none : app ≡ with_rules app [] = ap (λ all. on_top (λ s. record s { rules = all }) app) (sym (append-nil app.top.rules)) in
    subst (λ app. IsDefined app new) none (subst (IsDefined app) same h)
with_all app (a ∷ args) old new h local adds =
    subst (λ app. IsDefined app new) (one_more app (rule_of a) (map rule_of args)) (with_all (with_rule app (rule_of a)) args adds.0 new (with_arg app old adds.0 a h local.0 adds.1) local.1 adds.2)

-- a command with further arguments
pub with_args : {E : Type 0} (app : App) (args : List Arg) (old : Command) (r : Result Command E) → IsDefined app old → AreLocal args
    → IfOk r (λ new. AddsInTurn AddsArg old args new) → IfOk r (IsDefined (with_rules app (map rule_of args)))
with_args app args old (Ok new) h local adds = with_all app args old new h local adds
with_args app args old (Err e) h local adds = tt

-- a command with one more subcommand
with_sub : (app : App) (shape : Shape) (old sub new : Command) → app_of old ≡ app → IsDefined (leaf shape) sub → AddsSubcommand old sub new → app_of new ≡ with_subcommand app shape
with_sub app shape old sub new is defined adds = adds.shape defined.local ∙ ap (λ k. with_subcommand k (shape_of sub)) is ∙ ap (with_subcommand app) (ap (λ (a : App). a.top) defined.definition)

-- a command with one more subcommand, if both were made
pub with_made : {E : Type 0} (app : App) (shape : Shape) (old made r : Result Command E) → IfOk old (λ c. app_of c ≡ app) → IfOk made (IsDefined (leaf shape))
    → IfOk r (λ new. IsOkAnd old (λ c. IsOkAnd made (λ sub. AddsSubcommand c sub new))) → IfOk r (λ new. app_of new ≡ with_subcommand app shape)
with_made app shape (Ok old) (Ok sub) (Ok new) is defined adds = with_sub app shape old sub new is defined adds
with_made app shape (Ok old) (Err e) (Ok new) is defined adds = absurd adds
with_made app shape (Err e) made (Ok new) is defined adds = absurd adds
with_made app shape old made (Err e) is defined adds = tt
