use Rattle.sched_report.proofs.printing.print_waste.Goals as goal

pub returns : goal.returns
returns g c = rw (c.as_slice.ensures.items, c.as_slice-2.ensures.items, c.as_slice-3.ensures.items) at c.put_lines.ensures
