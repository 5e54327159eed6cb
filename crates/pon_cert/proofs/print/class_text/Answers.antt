use Rattle.std.proofs.Common.{◌≡◌, ◌++◌, ◌∷◌, ap, ◌∙◌, List, ℕ, sym, append_assoc}
use Rattle.std.specs.Prelude.{Bool, string_bytes, codes}
use Rattle.std.proofs.lemmas.Result.{IfOk-weaker}
use Rattle.pon_cert.specs.Spelling.{level_text, saturated_names, names_text, class_text}
use Rattle.pon_cert.proofs.print.class_text.Goals as goal

pub returns : goal.returns
returns c =
    let whole : level_text c.args.class.now.level ++ 32 ∷ names_text (saturated_names c.args.names.now c.args.class.now.saturated) ≡ class_text c.args.names.now c.args.class.now = sym (append_assoc (level_text c.args.class.now.level) (codes " ") (names_text (saturated_names c.args.names.now c.args.class.now.saturated))) in
    IfOk-weaker c.format.result _ (λ text. string_bytes text ≡ class_text c.args.names.now c.args.class.now)
    (λ text e. e ∙ ap (λ (t : List ℕ). t ++ 32 ∷ string_bytes c.in_ok-set.set) c.in_ok-level.ensures
    ∙ ap (λ (t : List ℕ). level_text c.args.class.now.level ++ 32 ∷ t) (c.in_ok-set.ensures ∙ ap (λ (fs : List Bool). names_text (saturated_names c.args.names.now fs)) c.as_slice.ensures)
    ∙ whole)
    c.format.ensures.ok
