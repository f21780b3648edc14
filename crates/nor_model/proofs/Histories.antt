use Rattle.std.proofs.Common.{◌≡◌, ◌∙◌, ◌∷◌, ◌++◌, ℕ, Bool, true, List, [], refl, sym, ap}
use Rattle.std.specs.Prelude.{if◌then◌else◌}
use Rattle.std.proofs.lemmas.List.{append_assoc}
use Rattle.nor_model.specs.Exchange.{Exchange}
use Rattle.nor_model.specs.History.{Continues, KeepsReplies, Answered, last_reply, bytes_or_none}

pub continues_refl : (history : List Exchange) → Continues history history
continues_refl history = record { later = []; is = refl }

pub continues_by : {exchange : Exchange} {old new : List Exchange} → new ≡ exchange ∷ old → Continues old new
continues_by {exchange} is = record { later = exchange ∷ []; is = is }

pub continues_then : {old mid new : List Exchange} → Continues old mid → Continues mid new → Continues old new
continues_then {old} first second = record {
  later = second.later ++ first.later;
  is = second.is ∙ ap (λ (h : List Exchange). second.later ++ h) first.is ∙ sym (append_assoc second.later first.later old);
}

pub keeps_replies_none : {may : List ℕ → Bool} (history : List Exchange) → KeepsReplies may history history
keeps_replies_none history = record { same = λ is others. refl }

pub keeps_replies_then : {may : List ℕ → Bool} {old mid new : List Exchange} → KeepsReplies may old mid
    → KeepsReplies may mid new → KeepsReplies may old new
keeps_replies_then first second = record { same = λ is others. second.same is others ∙ first.same is others }

pub keeps_replies_by : {may : List ℕ → Bool} {exchange : Exchange} {old new : List Exchange}
    → new ≡ exchange ∷ old → may exchange.out ≡ true → KeepsReplies may old new
keeps_replies_by {may} {exchange} {old} {new} by passes = record {
  same = λ is others. ap (last_reply is) by
      ∙ ap (λ (b : Bool). if b then bytes_or_none exchange.reply else last_reply is old) (others exchange.out passes);
}

pub keeps_replies_less : {may might : List ℕ → Bool} {old new : List Exchange} → KeepsReplies may old new
    → ((out : List ℕ) → may out ≡ true → might out ≡ true) → KeepsReplies might old new
keeps_replies_less keeps less = record { same = λ is others. keeps.same is (λ out passes. others out (less out passes)) }

pub answered_keeps : {is : List ℕ → Bool} {old new : List Exchange} {reply : List ℕ} → Answered is old new reply
    → KeepsReplies is old new
answered_keeps answered = keeps_replies_by answered.history answered.asks

pub answered_last : {is : List ℕ → Bool} {old new : List Exchange} {reply : List ℕ} → Answered is old new reply
    → last_reply is new ≡ reply
answered_last {is} {old} {new} {reply} answered =
    ap (last_reply is) answered.history ∙ ap (λ (b : Bool). if b then reply else last_reply is old) answered.asks
