use Rattle.std.proofs.Common.{◌≡◌, inl, inr, false, true, arith}
use Rattle.tasks.proofs.task.Task.of_matches.Goals as goal

nothing : {P : Type 0} → false ≡ true → P
nothing some = let bad : ⊥ = cc in absurd bad

pub returns-in-None-clause-named : goal.returns-in-None-clause-named
returns-in-None-clause-named c = λ named.
    elim named [
      | inl it ↦ nothing (c.in-None.ensures.named (inl it))
      | inr (inl it) ↦ nothing (c.in-None.ensures.named (inr (inl it)))
      | inr (inr (inl it)) ↦ nothing (c.in-None.ensures.named (inr (inr (inl it))))
      | inr (inr (inr (inl it))) ↦ nothing (c.in-None.ensures.named (inr (inr (inr (inl it)))))
      | inr (inr (inr (inr (inl it)))) ↦ c.replay_in.ensures.named it
      | inr (inr (inr (inr (inr (inl it))))) ↦ nothing (c.in-None.ensures.named (inr (inr (inr (inr (inl it))))))
      | inr (inr (inr (inr (inr (inr it))))) ↦ nothing (c.in-None.ensures.named (inr (inr (inr (inr (inr it))))))
    ]

pub returns-in-None-clause-task : goal.returns-in-None-clause-task
returns-in-None-clause-task c = grind arith

pub returns-in-Some-clause-task : goal.returns-in-Some-clause-task
returns-in-Some-clause-task c = grind arith
