use Rattle.wy_lens.proofs.Delivered.{absent_cause, fault_cause, nothing_written, out_fault, too_long_cause, usage_cause, written_due, written_part}
use Rattle.wy_lens.proofs.top.whylens.Goals as goal

pub returns-in-Ok-clause-due : goal.returns-in-Ok-clause-due
returns-in-Ok-clause-due g c = λ shelf out knows some. written_due _ _ _ _ _ _ _ _ c.in-Ok.answer c.deliver.result _ c.in-Ok.ensures.due c.deliver.ensures c.code.ensures shelf out knows some

pub returns-in-Ok-clause-part : goal.returns-in-Ok-clause-part
returns-in-Ok-clause-part g c = written_part _ _ _ _ _ _ _ _ c.in-Ok.answer c.deliver.result c.in-Ok.ensures.due c.deliver.ensures

pub returns-in-Ok-clause-usage : goal.returns-in-Ok-clause-usage
returns-in-Ok-clause-usage g c = usage_cause _ _ _ _ _ c.in-Ok.answer c.deliver.result _ c.in-Ok.ensures.usage c.deliver.ensures c.code.ensures

pub returns-in-Ok-clause-absent : goal.returns-in-Ok-clause-absent
returns-in-Ok-clause-absent g c = absent_cause _ _ _ _ _ _ _ _ c.in-Ok.answer c.deliver.result _ c.in-Ok.ensures.causes c.deliver.ensures c.code.ensures

pub returns-in-Ok-clause-too_long : goal.returns-in-Ok-clause-too_long
returns-in-Ok-clause-too_long g c = too_long_cause _ _ _ _ _ _ _ _ c.in-Ok.answer c.deliver.result _ c.in-Ok.ensures.causes c.deliver.ensures c.code.ensures

pub returns-in-Ok-clause-fault : goal.returns-in-Ok-clause-fault
returns-in-Ok-clause-fault g c = fault_cause _ _ _ _ _ _ _ _ c.in-Ok.answer c.deliver.result _ c.in-Ok.ensures.due c.deliver.ensures c.code.ensures

pub returns-in-Ok-clause-out_fault : goal.returns-in-Ok-clause-out_fault
returns-in-Ok-clause-out_fault g c = out_fault _ _ _ _ c.in-Ok.answer c.deliver.result _ c.deliver.ensures c.code.ensures

pub returns-in-Err-clause-part : goal.returns-in-Err-clause-part
returns-in-Err-clause-part g c = nothing_written _ _ _
