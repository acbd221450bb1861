-- Each step of what stands keeps it well formed.
use Rattle.pps_types.specs.declared.event.Event.{Event}
use Rattle.pps_types.specs.Content.{Content}
use Rattle.pps_types.specs.Plan.{step_seen}
use Rattle.pps_types.specs.WellFormed.{IsContent}
use Rattle.service_laws.proofs.Fits.{order-in, order-out, tree-in, tree-out, held-in, held-out, told-in, told-out}
use Rattle.service_laws.proofs.Holders.{Basis, told-both, told-apart}
use Rattle.service_laws.proofs.Passes.{step-basis}
use Rattle.service_laws.proofs.Servers.{Served}
use Rattle.service_laws.proofs.Serving.{step-served}
use Rattle.service_laws.proofs.Parked.{AreIdle, step-idle}

pub basis-in : (c : Content) → IsContent c → Basis c
basis-in c w = record { order = order-in c w.order; tree = tree-in c w.tree; held = held-in c w.held; told = told-both c (told-in c w.told) }

pub content-out : (c : Content) → Basis c → Served c → AreIdle c → IsContent c
content-out c b s idle = record {
  order = order-out c b.order;
  tree = tree-out c b.tree;
  held = held-out c b.held;
  served = record { servers = s.0; users = s.1 };
  told = told-out c (told-apart c b.told);
  parked = record { idle = idle };
}

pub step-content : (c : Content) (e : Event) → IsContent c → IsContent (step_seen c e).1
step-content c e w = let b = basis-in c w in content-out (step_seen c e).1 (step-basis c e b) (step-served c e b (w.served.servers, w.served.users)) (step-idle c e b w.parked.idle)
