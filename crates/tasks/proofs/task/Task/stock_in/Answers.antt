use Rattle.std.proofs.Common.{inl, inr}
use Rattle.tasks.proofs.TaskValues.{if_some_or, some_or}
use Rattle.tasks.proofs.task.Task.stock_in.Goals as goal

pub returns-clause-task : goal.returns-clause-task
returns-clause-task c = if_some_or _ _ _ _ c.or-4.ensures (if_some_or _ _ _ _ c.or-3.ensures (if_some_or _ _ _ _ c.or-2.ensures (if_some_or _ _ _ _ c.or.ensures c.links_in.ensures.task c.manifest_in.ensures.task) c.compare_in.ensures.task) c.listing_in.ensures.task) c.export_in.ensures.task

pub returns-clause-named : goal.returns-clause-named
returns-clause-named c = λ named.
    elim named [
      | inl (inl it) ↦ some_or _ _ _ c.or-4.ensures (inl (some_or _ _ _ c.or-3.ensures (inl (some_or _ _ _ c.or-2.ensures (inl (some_or _ _ _ c.or.ensures (inl (c.links_in.ensures.named it))))))))
      | inl (inr (inl it)) ↦ some_or _ _ _ c.or-4.ensures (inl (some_or _ _ _ c.or-3.ensures (inl (some_or _ _ _ c.or-2.ensures (inl (some_or _ _ _ c.or.ensures (inr (c.manifest_in.ensures.named it))))))))
      | inl (inr (inr (inl it))) ↦ some_or _ _ _ c.or-4.ensures (inl (some_or _ _ _ c.or-3.ensures (inl (some_or _ _ _ c.or-2.ensures (inr (c.compare_in.ensures.named it))))))
      | inl (inr (inr (inr it))) ↦ some_or _ _ _ c.or-4.ensures (inl (some_or _ _ _ c.or-3.ensures (inr (c.listing_in.ensures.named it))))
      | inr it ↦ some_or _ _ _ c.or-4.ensures (inr (c.export_in.ensures.named it))
    ]
