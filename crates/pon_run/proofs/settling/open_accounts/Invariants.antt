use Rattle.std.proofs.Common.{◌≡◌, ◌++◌, map}
use Rattle.pon_run.proofs.settling.open_accounts.Given as goal

-- the accounts of the ports so far, and those to come
abbrev pub invariant-loop-port : goal.invariant-loop-port
invariant-loop-port l = record {
  all : l.yielded ++ l.port-iterator.rest.items ≡ l.fn.taken.items;
  ports : map (λ account. account.port) l.all.items ≡ map (λ t. t.port) l.yielded;
  chapters : map (λ account. account.chapters) l.all.items ≡ map (λ t. t.chapters) l.yielded;
}
