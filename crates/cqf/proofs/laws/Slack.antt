-- The slack of a crossed port is negative exactly when the port fails.
use Rattle.std.specs.Prelude.{◌≡◌, refl, Bool, true, false, not, ◌&&◌, ℕ, ltb}
use Rattle.std.proofs.Common.{sym, ap, ◌∙◌}
use Rattle.std.proofs.Math.IntN.{sub_ℕ}
use Rattle.std.specs.Int.Signed.{non_neg}
use Rattle.cqf.specs.Plan.{Plan}
use Rattle.cqf.specs.Port.{capacity, workload}
use Rattle.cqf.specs.Condition.{crossed, demand, fails, slack}

sub_sign : (a b : ℕ) → non_neg (sub_ℕ a b) ≡ not (ltb a b)
sub_sign a b = go (ltb a b) refl
  where
    go : (x : Bool) → ltb a b ≡ x → non_neg (sub_ℕ a b) ≡ not x
    go true e = rw e
    go false e = rw e

crossed-fails : (p : Plan) (T q : ℕ) → crossed p q ≡ true → fails p T q ≡ ltb (capacity p q T) (workload p q (demand p q T))
unfolding fails
crossed-fails p T q e = ap (λ (x : Bool). x && ltb (capacity p q T) (workload p q (demand p q T))) e

pub slack_sign : (p : Plan) (T q : ℕ) → crossed p q ≡ true → non_neg (slack p q T) ≡ not (fails p T q)
unfolding slack
slack_sign p T q e =
    sub_sign (capacity p q T) (workload p q (demand p q T)) ∙ ap not (sym (crossed-fails p T q e))
