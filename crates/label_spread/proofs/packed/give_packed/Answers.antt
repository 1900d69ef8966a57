use Rattle.label_spread.proofs.packed.give_packed.Goals as goal

pub returns-in_ok-give_plain-in-Plain : goal.returns-in_ok-give_plain-in-Plain
returns-in_ok-give_plain-in-Plain c = rw c.in-Plain.is c.in_ok-give_plain-in-Plain.ensures
