use Rattle.std.proofs.Common.{ap, sym, ◌∙◌, subst, arith}
use Rattle.pon_demand.specs.Shares.{IsMember}
use Rattle.pon_demand.proofs.RowShares.{be_later, be_member, be_rate, fits_line, na_later, na_member, na_rate, plain_later, plain_rate}
use Rattle.pon_demand.proofs.shares.Shares.next.Goals as goal

pub next-requires : goal.next-requires
next-requires c =
    let n = c.requires in
    subst (λ d. IsMember c.args.self.now.na.level.now c.args.self.now.na.flags.now d.item) (sym n.is)
    (na_member n.input n.index n.row n.here n.cert c.args.self.now n.shares_at (ap (λ d. d.class) (sym n.is) ∙ c.in-NonAssured.is))

pub next-requires-in-BestEffort : goal.next-requires-in-BestEffort
next-requires-in-BestEffort c =
    let n = c.requires in
    subst (λ d. IsMember c.args.self.now.be.level.now c.args.self.now.be.flags.now d.item) (sym n.is)
    (be_member n.input n.index n.row n.here n.cert c.args.self.now n.shares_at (ap (λ d. d.class) (sym n.is) ∙ c.in-BestEffort.is))

pub returns-in-Plain-clause-rate : goal.returns-in-Plain-clause-rate
returns-in-Plain-clause-rate c = λ s cert i r at here is. c.new.ensures ∙ plain_rate s i r here cert c.args.self.now at (ap (λ d. d.class) (sym is) ∙ c.in-Plain.is)

pub returns-in-NonAssured-clause-rate : goal.returns-in-NonAssured-clause-rate
returns-in-NonAssured-clause-rate c = λ s cert i r at here is.
    na_rate s i r here cert c.args.self.now at (ap (λ d. d.class) (sym is) ∙ c.in-NonAssured.is) _ (ap (λ d. d.item) is) c.next.result.rate c.next.ensures.rate

pub returns-in-BestEffort-clause-rate : goal.returns-in-BestEffort-clause-rate
returns-in-BestEffort-clause-rate c = λ s cert i r at here is.
    be_rate s i r here cert c.args.self.now at (ap (λ d. d.class) (sym is) ∙ c.in-BestEffort.is) _ (ap (λ d. d.item) is) c.next-in-BestEffort.result.rate c.next-in-BestEffort.ensures.rate

pub returns-in-Plain-clause-later : goal.returns-in-Plain-clause-later
returns-in-Plain-clause-later c = λ s cert i r at here is. plain_later s i r here cert c.args.self.now at (ap (λ d. d.class) (sym is) ∙ c.in-Plain.is)

pub returns-in-NonAssured-clause-later : goal.returns-in-NonAssured-clause-later
returns-in-NonAssured-clause-later c = λ s cert i r at here is.
    na_later s i r here cert c.args.self.now at (ap (λ d. d.class) (sym is) ∙ c.in-NonAssured.is) c.next.new.self c.next.ensures.level c.next.ensures.rest

pub returns-in-BestEffort-clause-later : goal.returns-in-BestEffort-clause-later
returns-in-BestEffort-clause-later c = λ s cert i r at here is.
    be_later s i r here cert c.args.self.now at (ap (λ d. d.class) (sym is) ∙ c.in-BestEffort.is) c.next-in-BestEffort.new.self c.next-in-BestEffort.ensures.level c.next-in-BestEffort.ensures.rest

pub returns-in-Plain-clause-within : goal.returns-in-Plain-clause-within
returns-in-Plain-clause-within c = omega (arith, fits_line c.requires)

pub returns-in-NonAssured-clause-within : goal.returns-in-NonAssured-clause-within
returns-in-NonAssured-clause-within c = omega (arith, fits_line c.requires, c.next.ensures.within)

pub returns-in-BestEffort-clause-within : goal.returns-in-BestEffort-clause-within
returns-in-BestEffort-clause-within c = omega (arith, fits_line c.requires, c.next-in-BestEffort.ensures.within)
