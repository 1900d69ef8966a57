use Rattle.reports.proofs.items.push_header.Goals as goal

pub returns-clause-row : goal.returns-clause-row
returns-clause-row c = rw (c.as_bytes.ensures.value, c.as_bytes-2.ensures.value, c.as_bytes-3.ensures.value, c.as_bytes-4.ensures.value, c.as_bytes-5.ensures.value, c.as_bytes-6.ensures.value) at c.push.ensures.row
