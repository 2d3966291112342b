pub mod Certificate
pub mod CertificateParts
pub mod LabelPairs
