-- What a ticket keeps, and what faults bear, in every bank.
use Rattle.language.specs.Tickets.{TicketsKept}
use Rattle.language.proofs.Tickets.Parts.{parts_inside}
use Rattle.language.proofs.Tickets.Courses.{course_keeps, runs_keep}
use Rattle.language.proofs.Tickets.Faults.{faults_bear}

pub tickets_kept : TicketsKept
tickets_kept = record { parts = parts_inside; courses = course_keeps; runs = runs_keep; faults = faults_bear }
