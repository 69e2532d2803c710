-- What contracts cite, lowest first. Chains and BundlesInside say how the values are kept.
pub mod Bundles
pub mod Stacks
pub mod Chains
pub mod BundlesInside
