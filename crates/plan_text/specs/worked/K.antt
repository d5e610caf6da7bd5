-- Plan K as text.
use Rattle.std.specs.Prelude.{ℕ, ◌≡◌, refl, List, [], ◌∷◌}
use Rattle.cqf.specs.Form.{older}
use Rattle.cqf.proofs.worked.K.{plan_k}
use Rattle.plan_text.specs.Text.{read_text, reads, rejected}
use Rattle.plan_text.specs.Print.{text_of}
use Rattle.plan_text.specs.declared.grammar.Fault.{Fault}
use Rattle.plan_text.specs.declared.grammar.Item.{Item}

-- with all its words
abbrev pub text_k : List ℕ
text_k =
    103 ∷ 117 ∷ 97 ∷ 114 ∷ 100 ∷ 32 ∷ 49 ∷ 48 ∷ 48 ∷ 48 ∷ 10 ∷ 116 ∷ 111 ∷ 112 ∷ 32 ∷ 49 ∷ 48 ∷ 48 ∷ 48 ∷ 48 ∷ 48 ∷ 48 ∷ 10 ∷ 112 ∷ 111 ∷ 114 ∷ 116 ∷ 32 ∷ 49 ∷ 32 ∷ 114 ∷ 97 ∷ 116 ∷ 101 ∷ 32 ∷ 49 ∷ 48 ∷ 48 ∷ 10 ∷ 102 ∷ 108 ∷ 111 ∷ 119 ∷ 32 ∷ 49 ∷ 32 ∷ 112 ∷ 101 ∷ 114 ∷ 105 ∷ 111 ∷ 100 ∷ 32 ∷ 49 ∷ 48 ∷ 48 ∷ 48 ∷ 48 ∷ 48 ∷ 32 ∷ 108 ∷ 101 ∷ 110 ∷ 103 ∷ 116 ∷ 104 ∷ 32 ∷ 50 ∷ 51 ∷ 48 ∷ 32 ∷ 114 ∷ 111 ∷ 117 ∷ 116 ∷ 101 ∷ 32 ∷ 49 ∷ 10 ∷ 102 ∷ 108 ∷ 111 ∷ 119 ∷ 32 ∷ 50 ∷ 32 ∷ 112 ∷ 101 ∷ 114 ∷ 105 ∷ 111 ∷ 100 ∷ 32 ∷ 49 ∷ 49 ∷ 48 ∷ 48 ∷ 48 ∷ 48 ∷ 32 ∷ 99 ∷ 111 ∷ 117 ∷ 110 ∷ 116 ∷ 32 ∷ 49 ∷ 32 ∷ 108 ∷ 101 ∷ 110 ∷ 103 ∷ 116 ∷ 104 ∷ 32 ∷ 54 ∷ 48 ∷ 53 ∷ 32 ∷ 106 ∷ 105 ∷ 116 ∷ 116 ∷ 101 ∷ 114 ∷ 32 ∷ 48 ∷ 32 ∷ 114 ∷ 111 ∷ 117 ∷ 116 ∷ 101 ∷ 32 ∷ 49 ∷ 10 ∷ 99 ∷ 108 ∷ 111 ∷ 99 ∷ 107 ∷ 115 ∷ 32 ∷ 100 ∷ 114 ∷ 105 ∷ 102 ∷ 116 ∷ 32 ∷ 48 ∷ 32 ∷ 116 ∷ 105 ∷ 109 ∷ 105 ∷ 110 ∷ 103 ∷ 32 ∷ 48 ∷ 32 ∷ 115 ∷ 121 ∷ 110 ∷ 99 ∷ 32 ∷ 48 ∷ 10 ∷ []

pub text_k_lem : read_text text_k ≡ reads older plan_k
unfolding read_text plan_k
text_k_lem = refl

-- there and back
pub text_k_back : read_text (text_of older plan_k) ≡ reads older plan_k
unfolding read_text text_of plan_k
text_k_back = refl

-- a rate of 0 on line 3, behind a comment and the end of a line with a carriage return; a port on line 5 that is not in the plan
rate_0 : read_text (116 ∷ 111 ∷ 112 ∷ 32 ∷ 53 ∷ 35 ∷ 120 ∷ 13 ∷ 10 ∷ 10 ∷ 112 ∷ 111 ∷ 114 ∷ 116 ∷ 32 ∷ 49 ∷ 32 ∷ 114 ∷ 97 ∷ 116 ∷ 101 ∷ 32 ∷ 48 ∷ 10 ∷ 120 ∷ []) ≡ rejected 3 Fault.Range Item.Rate 0
unfolding read_text
rate_0 = refl

port_7 : read_text (103 ∷ 117 ∷ 97 ∷ 114 ∷ 100 ∷ 32 ∷ 49 ∷ 10 ∷ 116 ∷ 111 ∷ 112 ∷ 32 ∷ 57 ∷ 10 ∷ 10 ∷ 112 ∷ 111 ∷ 114 ∷ 116 ∷ 32 ∷ 49 ∷ 32 ∷ 114 ∷ 97 ∷ 116 ∷ 101 ∷ 32 ∷ 49 ∷ 10 ∷ 102 ∷ 108 ∷ 111 ∷ 119 ∷ 32 ∷ 49 ∷ 9 ∷ 112 ∷ 101 ∷ 114 ∷ 105 ∷ 111 ∷ 100 ∷ 32 ∷ 49 ∷ 48 ∷ 48 ∷ 48 ∷ 32 ∷ 108 ∷ 101 ∷ 110 ∷ 103 ∷ 116 ∷ 104 ∷ 32 ∷ 54 ∷ 52 ∷ 32 ∷ 114 ∷ 111 ∷ 117 ∷ 116 ∷ 101 ∷ 32 ∷ 49 ∷ 32 ∷ 55 ∷ []) ≡ rejected 5 Fault.Absent Item.Route 7
unfolding read_text
port_7 = refl
