-- A transaction over a bus, with its reply or stop.
use Rattle.std.specs.Prelude.{ℕ, List, Option}
use Rattle.std.specs.Coded.{Coded, code_by, coded×, coded_list, coded_option, coded_ℕ}
use Rattle.std.proofs.Common.{refl}

pub record Exchange : Type 0 where
  pub out : List ℕ
  -- The bytes of the reply, or `None` if the bus stopped at the transaction.
  pub reply : Option (List ℕ)

abbrev pub exchanges_code : Coded (List Exchange)
exchanges_code = coded_list (code_by (List ℕ × Option (List ℕ))
    (coded× (coded_list coded_ℕ) (coded_option (coded_list coded_ℕ)))
    (λ x. (x.out, x.reply)) (λ p. record { out = p.0; reply = p.1 }) (λ x. refl))

abbrev pub numbers_code : Coded (List ℕ)
numbers_code = coded_list coded_ℕ
