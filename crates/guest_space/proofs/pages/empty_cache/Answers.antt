use Rattle.guest_space.proofs.{CacheLaws.{empty_warm}, pages.empty_cache.Goals.{returns as goal}}

pub returns : goal
returns c = empty_warm
