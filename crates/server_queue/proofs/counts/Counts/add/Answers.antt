use Rattle.std.proofs.Common.{Some, refl, sym, ap, ◌∙◌, arith}
use Rattle.server_queue.specs.Senders.{sender_of}
use Rattle.server_queue.proofs.Tallies.{added_servers, added_clients, few_of_server, few_of_client}
use Rattle.server_queue.proofs.counts.Counts.add.Goals as goal

pub returns-in-Server-clause-tally : goal.returns-in-Server-clause-tally
returns-in-Server-clause-tally c owed e few kind tally =
    added_servers c.args.self.now record { from_server = c.saturating_add-self.result; from_clients = c.args.self.now.from_clients } owed e
    (sym (c.in-Some.is ∙ ap Some c.in-Server.is) ∙ c.said_by.ensures ∙ ap sender_of kind)
    (omega (arith, few, few_of_server c.args.self.now owed tally, c.saturating_add-self.ensures)) refl tally

pub returns-in-Client-clause-tally : goal.returns-in-Client-clause-tally
returns-in-Client-clause-tally c owed e few kind tally =
    added_clients c.args.self.now c.add_of_client.new.self owed e c.in-Client.client
    (sym (c.in-Some.is ∙ ap Some c.in-Client.is) ∙ c.said_by.ensures ∙ ap sender_of kind)
    c.add_of_client.ensures.server
    (c.add_of_client.ensures.client (omega (arith, few, few_of_client c.args.self.now owed c.in-Client.client tally)))
    c.add_of_client.ensures.others tally
