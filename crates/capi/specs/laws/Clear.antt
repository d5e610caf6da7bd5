-- What is lent with every number 0 holds no plan.
use Rattle.std.specs.Prelude.{ℕ, ◌≡◌, refl, Bool, true, false, cond}
use Rattle.cqf.specs.Form.{form_fits}
use Rattle.cqf.specs.Plan.{no_plan}
use Rattle.loading.specs.Lent.{lent_plan, none_lent}

either_way : (b : Bool) {n : ℕ} → cond b n n ≡ n
either_way true = refl
either_way false = refl

pub none_holds : lent_plan none_lent ≡ no_plan
unfolding no_plan
none_holds = rw (either_way (form_fits 0 no_plan.hops))
