use Rattle.open_handles.proofs.change.offer_in.Goals as goal

pub returns-clause-room : goal.returns-clause-room
returns-clause-room c = λ entries some ready. c.offer.ensures.room entries ready
