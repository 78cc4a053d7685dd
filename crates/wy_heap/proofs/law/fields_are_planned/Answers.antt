use Rattle.wy_heap.proofs.Plans.{class-is_owner, first-is_default}
use Rattle.wy_heap.proofs.law.fields_are_planned.Goals as goal

pub returns-clause-first : goal.returns-clause-first
returns-clause-first c = first-is_default

pub returns-clause-owner : goal.returns-clause-owner
returns-clause-owner c = class-is_owner
