-- What follows can follow, where its moves can be made.
use Rattle.std.proofs.Common.{List, [], ◌∷◌}
use Rattle.std.specs.List.{flat_map}
use Rattle.pps_types.specs.Content.{Content}
use Rattle.pps_types.specs.Plan.{apply_all_seen}
use Rattle.whole_texts.specs.declared.following.Following.{Following}
use Rattle.whole_texts.specs.declared.following.Following.TheVariants.{Fires, CatchesUp, Advances, Ends}
use Rattle.whole_texts.specs.Followed.{moves_of}
use Rattle.service_state.specs.Following.{CanFollowAll}
use Rattle.pps_engine.proofs.Able.{AreAble}

pub can-follow : (items : List Following) (c : Content) → AreAble c (flat_map moves_of items) → CanFollowAll c items
can-follow [] c able = tt
can-follow (Fires handle conn pulse ∷ items) c able = (able.0, can-follow items (apply_all_seen (moves_of (Fires handle conn pulse)) c) able.1.1)
can-follow (Ends handle conn result ∷ items) c able = (able.0, can-follow items (apply_all_seen (moves_of (Ends handle conn result)) c) able.1.1)
can-follow (CatchesUp handle ∷ items) c able = (tt, can-follow items (apply_all_seen (moves_of (CatchesUp handle)) c) able.1)
can-follow (Advances handle count ∷ items) c able = (tt, can-follow items (apply_all_seen (moves_of (Advances handle count)) c) able.1)
