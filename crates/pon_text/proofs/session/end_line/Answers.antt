use Rattle.std.proofs.Common.{rules, arith, sym, ◌∙◌, ◌≡◌, ◌++◌, ◌-◌, [], take, length}
use Rattle.std.specs.Prelude.{vec_len}
use Rattle.std.proofs.lemmas.Bool.{eqb-true}
use Rattle.std.proofs.lemmas.List.{nil_from_length}
use Rattle.std.proofs.lemmas.Result.{on_ok_weaker}
use Rattle.pon_text.proofs.Continuing.{ends_line, ends_whole}
use Rattle.pon_text.proofs.session.end_line.Goals as goal

pub returns-then-is_empty-clause-ok : goal.returns-then-is_empty-clause-ok
returns-then-is_empty-clause-ok g c =
    let none = eqb-true (vec_len c.args.line.now) 0 (sym c.is_empty.ensures ∙ c.if-is_empty.true) in
    let empty : c.args.line.now.items ≡ [] = nil_from_length c.args.line.now.items (omega (arith, none, c.args.line.now.ok.0)) in
    on_ok_weaker c.answer_line.result
    (λ a. (a.0, ends_whole g.A.Answers.gives g.met.A.Answers.reads_first c.args.state.now c.answer_line.new.state c.args.line.now.items c.args.part.now a.0 c.requires.no_feed empty a.1, a.2))
    c.answer_line.ensures.ok

pub returns-clause-ok : goal.returns-clause-ok
returns-clause-ok g c =
    let kept : c.as_slice.result.now ≡ c.args.line.now.items ++ take (4097 - length c.args.line.now.items) c.args.part.now = search rules in
    on_ok_weaker c.answer_line-answered.result
    (λ a. (
      a.0,
      ends_line g.A.Answers.gives g.met.A.Answers.reads_first c.args.state.now c.answer_line-answered.new.state c.args.line.now.items c.as_slice.result.now c.clear.new.self.items c.args.part.now a.0 c.requires.no_feed kept a.1 c.clear.ensures.items,
      a.2,
    ))
    c.answer_line-answered.ensures.ok
